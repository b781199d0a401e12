-- The effects of answers.
use Rattle.std.proofs.Common.{◌≡◌, ◌&&◌, Bool, true, false, ℕ, refl}
use Rattle.std.specs.Prelude.{if◌then◌else◌}
use Rattle.std.proofs.lemmas.Bool.{and_parts}
use Rattle.sm_reservation.specs.declared.stream_id.StreamId.{StreamId}
use Rattle.sm_driver.specs.Driver.{DriverModel, answer_effect, awaits_answer, is_due, is_past}
use Rattle.sm_driver.specs.declared.driver.AnswerEffect.TheVariants as answer

by_due : (due past : Bool) → (if due then answer.Moved else if past then answer.Old else answer.Unknown) ≡ answer.Moved → due ≡ true
by_due true past e = refl
by_due false true e = absurd (let z = e in cc)
by_due false false e = absurd (let z = e in cc)

-- only an answer that a stream waits for makes it move
pub moved_is_due : (d : DriverModel) (id : StreamId) (number : ℕ) → answer_effect d id number ≡ answer.Moved → is_due d id number ≡ true
moved_is_due d id number e = by_due (is_due d id number) (is_past d id number) e

-- and that stream stands before an order or a publication
pub moved_awaits : (d : DriverModel) (id : StreamId) (number : ℕ) → answer_effect d id number ≡ answer.Moved → awaits_answer d id ≡ true
moved_awaits d id number e = (and_parts (awaits_answer d id) _ (moved_is_due d id number e)).0
