-- Replies to `failed`: what an order that its server did not take points to, and what is to be done then.
use Rattle.std.specs.Prelude.{ℕ, List, [], ◌++◌, Option, Some, None, codes, nat_le, if◌then◌else◌}
use Rattle.json.specs.Token.{Token}
use Rattle.sm_reservation.specs.declared.stream_id.StreamId.{StreamId}
use Rattle.sm_driver.specs.Driver.{DriverModel, answer_effect, base, record_of}
use Rattle.sm_driver.specs.Orders.{NetMessage, OfOrder, OfPublication, message_of}
use Rattle.sm_driver.specs.Restores.{RestoreModel}
use Rattle.sm_driver.specs.declared.driver.AnswerEffect.{AnswerEffect}
use Rattle.sm_driver.specs.declared.driver.AnswerEffect.TheVariants as effect
use Rattle.smpland_lines.specs.Members.{object_member, text_member}
use Rattle.smpland_lines.specs.declared.command.FailedAnswer.{FailedAnswer}
use Rattle.smpland_lines.specs.declared.command.FailedAnswer.TheVariants as answer
use Rattle.smpland_state.specs.Bits.{bits_member}
use Rattle.smpland_state.specs.Known.{kept_restore}

-- the nonce of a restore, if it was in the epoch of this base
abbrev pub nonce_above : ℕ → Option RestoreModel → Option ℕ
nonce_above base None = None
nonce_above base (Some restore) = if nat_le base restore.number then Some restore.nonce else None

-- under which nonce a server was restored in the present epoch, if it was
abbrev pub nonce_now : DriverModel → ℕ → Option ℕ
nonce_now d v = nonce_above (base d) (kept_restore d v)

-- the same of the server of an order
abbrev pub nonce_for : DriverModel → Option NetMessage → Option ℕ
nonce_for d (Some (OfOrder o)) = nonce_now d o.call.server
nonce_for d (Some (OfPublication p)) = None
nonce_for d None = None

-- the nonce as a member, if there is one
abbrev pub nonce_members : Option ℕ → List Token
nonce_members (Some nonce) = bits_member (codes "nonce") nonce
nonce_members None = []

-- what an order that failed points to, what is to be done then, and under which nonce
abbrev pub cause_members : List ℕ → List ℕ → Option ℕ → List Token
cause_members cause what nonce = text_member (codes "cause") cause ++ text_member (codes "then") what
    ++ nonce_members nonce

-- the server has lost its slots: it takes those of its restore, if it had one in this epoch
abbrev pub unknown_members : Option ℕ → List Token
unknown_members (Some nonce) = cause_members (codes "unknown") (codes "restore") (Some nonce)
unknown_members None = cause_members (codes "unknown") (codes "reopen") None

-- these by the server's answer, and by the nonce under which it was restored, if it was
abbrev pub failure_members : FailedAnswer → Option ℕ → List Token
failure_members answer.Old _ = cause_members (codes "ahead") (codes "audit") None
failure_members answer.Refused _ = cause_members (codes "differs") (codes "audit") None
failure_members answer.Foreign _ = cause_members (codes "foreign") (codes "reopen") None
failure_members answer.NotReady nonce = unknown_members nonce

-- the reply, by what an answer under the order's number would come to: it tells what is to be done, or that there is no
-- such order
abbrev pub failed_reply : AnswerEffect → FailedAnswer → Option ℕ → List Token
failed_reply effect.Moved answer nonce = object_member (codes "failed") (failure_members answer nonce)
failed_reply effect.Old _ _ = text_member (codes "ignored") (codes "old")
failed_reply effect.Unknown _ _ = text_member (codes "ignored") (codes "unknown")

-- the same of a stream's order under a number
abbrev pub failed_member : DriverModel → StreamId → ℕ → FailedAnswer → List Token
failed_member d id number answer =
    failed_reply (answer_effect d id number) answer (nonce_for d (message_of (base d) (record_of d) id))
