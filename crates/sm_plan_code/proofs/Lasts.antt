-- Statements about rights and scenes don't look at last numbers.
use Rattle.std.proofs.Common.{◌≡◌, ℕ, refl}
use Rattle.sm_placement.specs.declared.lead.Lead.{Lead}
use Rattle.sm_placement.specs.Setup.{Sizes}
use Rattle.sm_placement.specs.Place.{Place, with_lasts}
use Rattle.sm_placement.proofs.Calls.{placement_with_lasts}
use Rattle.sm_reservation.specs.Amounts.{Right, OfCell, OfCrown, OfRoom, OfSpare, stock, bound}
use Rattle.sm_plan_code.specs.Effects.{SameRights}

module _ (c : Sizes) (p : Place) (last : ℕ → ℕ → ℕ) where
  same_stock : (leads : ℕ → Lead) (r : Right) → stock c (with_lasts last p) leads r ≡ stock c p leads r
  same_stock leads (OfCell s v state) = refl
  same_stock leads (OfCrown s lead listed) = refl
  same_stock leads (OfRoom v) = refl
  same_stock leads (OfSpare s) = refl

  same_bound : (r : Right) → bound c (with_lasts last p) r ≡ bound c p r
  same_bound (OfCell s v state) = refl
  same_bound (OfCrown s lead listed) = refl
  same_bound (OfRoom v) = refl
  same_bound (OfSpare s) = refl

  -- what is said of rights and scenes at a placement is said of it under any last numbers too
  pub lasts_are_unseen : SameRights c p (with_lasts last p)
  lasts_are_unseen = record {
    placement = placement_with_lasts c p last;
    stock = same_stock;
    bound = same_bound;
    scene = λ leads numbers h sc. record {
      placement = placement_with_lasts c p last sc.placement;
      described = sc.described;
      truth = record { rights = λ r. rw (same_stock leads r, same_bound r) (sc.truth.rights r) };
    };
  }
