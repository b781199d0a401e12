-- The faults of a document: its own, some of which are noted after those of its servers and shards have been noted apart.
use Rattle.std.proofs.Common.{◌≡◌, ◌++◌, List, Option, ap, sym, refl, ◌∙◌}
use Rattle.sm_plan_text.specs.declared.fault.TextFault.{TextFault}
use Rattle.sm_plan_text.specs.Faults.{noted}
use Rattle.sm_plan_text.proofs.WalkLemmas.{noted_append}

-- the faults of two parts, noted one after the other
pub two_noted : (best middle end : Option TextFault) (xs ys : List TextFault) → middle ≡ noted best xs → end ≡ noted middle ys → end ≡ noted best (xs ++ ys)
two_noted best middle end xs ys h e = e ∙ ap (λ f. noted f ys) h ∙ sym (noted_append best xs ys)

-- the same of five parts more
pub five_noted : (best start end : Option TextFault) (front u v w x y : List TextFault) → start ≡ noted best front → end ≡ noted (noted (noted (noted (noted start u) v) w) x) y → end ≡ noted best (((((front ++ u) ++ v) ++ w) ++ x) ++ y)
five_noted best start end front u v w x y h e =
    let at_u = two_noted best start (noted start u) front u h refl in
    let at_v = two_noted best (noted start u) (noted (noted start u) v) (front ++ u) v at_u refl in
    let at_w = two_noted best (noted (noted start u) v) (noted (noted (noted start u) v) w) ((front ++ u) ++ v) w at_v refl in
    let at_x = two_noted best (noted (noted (noted start u) v) w) (noted (noted (noted (noted start u) v) w) x) (((front ++ u) ++ v) ++ w) x at_w refl in
    two_noted best (noted (noted (noted (noted start u) v) w) x) end ((((front ++ u) ++ v) ++ w) ++ x) y at_x e
