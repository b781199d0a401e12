-- The map's owner has told the map, and no copy has changed.
use Rattle.std.proofs.Common.{◌≡◌, Bool, true, false, refl}
use Rattle.laws_network.specs.Reopening.{Entries, MapOwner, is_first}
use Rattle.sm_reopening.specs.Ongoing.{net_reopening}
use Rattle.smpland_reopening_lines.proofs.Slots.{map_keeps, not_old}
use Rattle.smpland_reopening_lines.proofs.taken.take_map.Goals as goal

first_time : (b : Bool) → (b ≡ false → ⊥) → b ≡ true
first_time true not = refl
first_time false not = absurd (not refl)

pub returns-in-Waiting : goal.returns-in-Waiting
returns-in-Waiting c told =
    let is = c.map_fenced.ensures in (
      Entries,
      refl,
      record {
        first = first_time (is_first (net_reopening c.args.reopening.now.ongoing) MapOwner c.args.base) (λ f. not_old _ c.in-Waiting.is (is.old.1 f));
        taken = is.reopening;
        copies = map_keeps Entries _ _ is.copies;
        below = λ s v same. absurd (let z = same in cc);
        under = is.under;
        next = is.next;
      },
    )
