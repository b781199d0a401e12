-- The permits of all servers.
use Rattle.std.proofs.Common.{◌≡◌, ◌≤◌, ◌<◌, ℕ, None, Some, List, Option, length, inl, inr, rules, arith}
use Rattle.std.proofs.lemmas.Bool.{cases_lt}
use Rattle.std.proofs.lemmas.List.{get_or_past}
use Rattle.sm_driver.specs.Permits.{permit_of}
use Rattle.sm_driver.proofs.permits.are_earlier_permits.Goals as goal

-- who has a permit is one of the servers
is_known : (permits : List (Option ℕ)) (v permit : ℕ) → permit_of permits v ≡ Some permit → v < length permits
is_known permits v permit e = elim (cases_lt v (length permits)) [
  | inl l ↦ l
  | inr past ↦ absurd (let none = get_or_past permits v None past in cc)
]

pub returns : goal.returns
returns c =
    let permits = c.args.permits.now in
    let so_far = c.loop-server.invariant in
    let all : length permits ≤ c.loop-server.server = c.loop-server-test.false in (
      (λ _. record {
        earlier = λ v permit e. so_far.earlier v permit (let l = is_known permits v permit e in omega arith) e;
        apart = λ u v permit e f. so_far.apart u v permit (let l = is_known permits u permit e in omega arith) (let l = is_known permits v permit f in omega arith) e f;
      }),
      (λ _. search rules),
    )
