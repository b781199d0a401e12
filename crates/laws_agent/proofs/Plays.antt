-- The worked play of agents, computed by the definitions.
use Rattle.std.proofs.Common.{refl, subst, arith, sym}
use Rattle.std.proofs.lemmas.Bool.{eqb-true}
use Rattle.laws_network.specs.Reopening.{Confirm, Reopen}
use Rattle.laws_network.specs.ReopeningLaws.{IsGivenUp}
use Rattle.laws_network.specs.ReopeningPlays.{BringsBack, brought}
use Rattle.laws_agent.specs.ClusterLaws.{MayNote, seen_alone}
use Rattle.laws_agent.specs.ClusterPlays.{ServesAgain, one_lost, others_told, server_lost}

begins : MayNote server_lost (Reopen 3000000 3 one_lost)
begins = record {
  later = omega arith;
  places = omega arith;
  versions = λ s. omega arith;
  given_up = λ v e. subst (IsGivenUp (seen_alone server_lost)) (sym (eqb-true v 1 e)) (record { nonce = 1; unknown = refl; unmet = tt });
}

confirms : BringsBack → MayNote others_told (Confirm brought)
confirms brings = let a = brings.allowed in record {
  first = a.first;
  opening = a.opening;
  servers = a.servers;
  map = a.map;
  answered = a.answered;
  kept = a.kept;
  carried = a.carried;
  down = a.down;
  lost = a.lost;
  claims = a.claims;
  handed = a.handed;
}

-- the old owner serves again
pub serves_again : BringsBack → ServesAgain
serves_again brings = record { begins = begins; confirms = confirms brings; before = refl; fenced = refl; settled = refl; cells = refl }
