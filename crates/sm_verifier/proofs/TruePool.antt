-- A right that is free in a pool whose rights are true of a placement is true of the placement.
use Rattle.std.proofs.Common.{◌≡◌, false, Option, Some, None, List, subst, ◌∙◌}
use Rattle.std.specs.Prelude.{is_some, IfNone}
use Rattle.sm_placement.specs.Setup.{Setup, Sizes, sizes_of}
use Rattle.sm_placement.specs.Place.{Place}
use Rattle.sm_reservation.specs.declared.right.Key.{Key}
use Rattle.sm_reservation.specs.declared.right.Key.TheVariants.{CellRight, Crown, Room, Spare}
use Rattle.sm_reservation.specs.Hold.{Hold}
use Rattle.sm_reservation.specs.Pool.{true_rights}
use Rattle.sm_plan_code.specs.Plan.{StreamModel}
use Rattle.sm_verifier.specs.Admission.{declared, IsIn, Has, Agree, AreTrue, AreFree}

-- what agrees with what is in a hold is in that hold
in_by_way : (d pool h : Hold) (key : Key) → (Has d key → Agree d pool key) → IsIn pool h key → IsIn d h key
in_by_way d pool h (CellRight s v) agree into = λ has. let e = agree has in e ∙ into (rw (← e) has)
in_by_way d pool h (Crown s) agree into = λ has. let e = agree has in e ∙ into (rw (← e) has)
in_by_way d pool h (Room v) agree into = λ has. absurd has
in_by_way d pool h (Spare s) agree into = λ has. absurd has

-- what is free is true
pub true_where_free : (c : Sizes) (p : Place) (pool : Hold) (streams : List StreamModel) → ((key : Key) → IsIn pool (true_rights c p) key) → AreFree pool streams → AreTrue c p streams
true_where_free c p pool streams into free i key = in_by_way (declared streams i) pool (true_rights c p) key (λ has. (free i key has).0) (into key)

-- the same, where nothing was found that is taken
pub true_where_none : (pool : Hold) (p : Place) (a b : Setup) → a ≡ b → ((key : Key) → IsIn pool (true_rights (sizes_of a) p) key) → (o : Option Key) → is_some o ≡ false → (xs ys : List StreamModel) → xs ≡ ys → IfNone o (AreFree pool xs) → AreTrue (sizes_of b) p ys
true_where_none pool p a b same into o none xs ys at free =
    true_where_free (sizes_of b) p pool ys (subst (λ s. (key : Key) → IsIn pool (true_rights (sizes_of s) p) key) same into) (subst (λ l. AreFree pool l) at (go o none free))
  where
    go : (o : Option Key) → is_some o ≡ false → IfNone o (AreFree pool xs) → AreFree pool xs
    go None e f = f
    go (Some key) e f = cc
