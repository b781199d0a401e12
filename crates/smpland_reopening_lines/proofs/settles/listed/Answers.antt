use Rattle.std.proofs.Common.{◌≡◌, ◌∙◌, None, List, Option, ℕ, ap, refl}
use Rattle.std.specs.Prelude.{slice_index_or}
use Rattle.sm_placement.specs.Layout.{PlacementModel, entries_of, place_of}
use Rattle.smpland_reopening_lines.proofs.settles.listed.Goals as goal

-- the map's list, read by place
listed_is : (p : PlacementModel) (k : ℕ) → slice_index_or p.listed k None ≡ (place_of p).listed k
unfolding entries_of
listed_is p k = refl

pub returns : goal.returns
returns c =
    c.listed_at.ensures ∙ ap (λ (xs : List (Option ℕ)). slice_index_or xs c.args.shard None) c.listed_servers.ensures
    ∙ listed_is c.args.settlement.now c.args.shard
