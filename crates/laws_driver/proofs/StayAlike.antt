-- Alike drivers stay alike under a list of commands.
use Rattle.std.proofs.Common.{◌∙◌, ℕ, Option, List, [], ◌∷◌, length, sym, ap, subst}
use Rattle.sm_placement.specs.Setup.{Setup}
use Rattle.sm_placement.specs.Place.{Place}
use Rattle.sm_driver.specs.Alike.{AreAlike, EachAlike, GoAlike}
use Rattle.sm_driver.specs.Orders.{epoch_base}
use Rattle.sm_driver.specs.Permits.{opening_permits}
use Rattle.laws_driver.specs.Control.{ApproveRestart, BeginPlan, Command, DriverModel, EndRestart, IsWritten, NoteCopies, OpenEpoch, RestoreServer, TakeAnswer}
use Rattle.laws_driver.specs.Replicas.{LeadTo, OpenedAlike}

one_command : EachAlike GoAlike → (c : Command) (d e new next : DriverModel) → AreAlike d e → IsWritten c d new → IsWritten c e next → AreAlike new next
one_command go (BeginPlan plan) d e new next is (es, (m, x, told)) (fs, (n, y, tells)) = ((go d e is).begun plan m n new next x y).1
one_command go (TakeAnswer id number) d e new next is (es, (x, o, due, is_of, told)) (fs, (y, p, dues, is_ofs, tells)) = (go d e is).taken id new next x y
one_command go (ApproveRestart v) d e new next is (es, (p, x, told)) (fs, (q, y, tells)) = ((go d e is).approved v p q new next x y).1
one_command go (EndRestart permit server_base) d e new next is (es, (u, x, told)) (fs, (v, y, tells)) = ((go d e is).ended u v permit server_base new next x y).1
one_command go (RestoreServer v nonce) d e new next is (es, (x, told)) (fs, (y, tells)) = (go d e is).restored v nonce new next x y
one_command go (NoteCopies s copies) d e new next is (es, (x, told)) (fs, (y, tells)) = (go d e is).noted s copies new next x y
one_command go OpenEpoch d e new next is (es, (x, fault, told)) (fs, (y, faults, tells)) = (go d e is).opened new next x y

-- Alike drivers are alike behind each list of commands that both take.
pub stay_alike : EachAlike GoAlike → (cs : List Command) (d e new next : DriverModel) → AreAlike d e → LeadTo cs d new → LeadTo cs e next → AreAlike new next
stay_alike go [] d e new next is x y = subst (λ z. AreAlike z next) (sym x) (subst (AreAlike d) (sym y) is)
stay_alike go (c ∷ cs) d e new next is (m, x, xs) (n, y, ys) = stay_alike go cs m n new next (one_command go c d e m n is x y) xs ys

-- Drivers that open alike are alike.
pub open_alike : (rows : Setup) (p : Place) (room : ℕ) (before : List (Option ℕ)) (d e : DriverModel) → OpenedAlike rows p room before d e → AreAlike d e
open_alike rows p room before d e both = record {
  recorded = both.other.state ∙ sym both.one.state;
  setup = both.other.setup ∙ sym both.one.setup;
  journal = both.journal;
  epoch = both.epoch;
  fence = both.fence;
  permits = both.other.permits ∙ ap (λ (n : ℕ). opening_permits (epoch_base n) before (length rows.servers) p.down) both.epoch ∙ sym both.one.permits;
  carried = both.carried;
  restores = both.other.restores ∙ sym both.one.restores;
  copies = both.other.copies ∙ sym both.one.copies;
}
