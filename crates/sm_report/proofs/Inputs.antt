-- Reports of bytes that a reader may have given.
use Rattle.std.proofs.Common.{◌≡◌, ◌<◌, ℕ, suc, List, length, replicate, Option, Some, None, Result, Ok, Err, IfSome, lt-ltb, sym, ap, subst, refl, arith}
use Rattle.std.proofs.lemmas.List.{length-replicate}
use Rattle.sm_plan_text.specs.Documents.{DocumentModel}
use Rattle.sm_report.specs.declared.command.Command.{Command}
use Rattle.sm_report.specs.declared.stop.Stop.{Stop}
use Rattle.sm_report_text.specs.BadInput.{too_long_line}
use Rattle.sm_report.specs.declared.stop.Stop.TheVariants.{NoMemory, ReadFailed, Report}
use Rattle.sm_report.specs.Stop.{IfMade, IfReadEnded, IfReadMade}
use Rattle.sm_report.specs.Report.{Output, bad_input}
use Rattle.sm_report.specs.Stages.{read_stage}
use Rattle.sm_report.specs.Output.{IsReadAs, IsDocumentReport, IsReportOf}
use Rattle.sm_report.proofs.Onward.{ends_there, goes_on}

long_read : (most : ℕ) (bytes : List ℕ) (made : Output) → most < length bytes → made ≡ bad_input too_long_line → read_stage most bytes ≡ Err made
long_read most bytes made long is = rw (lt-ltb most (length bytes) long) (ap Err (sym is))

-- more bytes than may be end the report; where nothing is known of them, some that are too many do
pub too_long_read : (left : Option (List ℕ)) (most : ℕ) (made : Output) → IfSome left (λ input. most < length input) → made ≡ bad_input too_long_line → IsReadAs left most (Err made)
too_long_read None most made long is =
    let bytes : List ℕ = replicate (suc most) 0 in
    let more : most < length bytes = omega (arith, length-replicate {A = ℕ} (suc most) 0) in
    (bytes, tt, long_read most bytes made more is)
too_long_read (Some known) most made long is = (known, refl, long_read most known made long is)

-- what is said of the report with which the reading ended is said of it in weaker words
pub read_weaker : (stop : Stop) (P Q : Output → Type 0) → ((made : Output) → P made → Q made) → IfReadEnded stop P → IfReadEnded stop Q
read_weaker NoMemory P Q weaker h = tt
read_weaker ReadFailed P Q weaker h = tt
read_weaker (Report made) P Q weaker h = weaker made h

-- what is said of a report that was made of what was read is said in weaker words of one that reads too
behind_reading : (result : Result Output Stop) (P Q : Output → Type 0) → ((made : Output) → P made → Q made) → IfMade result P → IfReadMade result Q
behind_reading (Ok made) P Q weaker h = weaker made h
behind_reading (Err NoMemory) P Q weaker h = tt
behind_reading (Err ReadFailed) P Q weaker h = tt
behind_reading (Err (Report made)) P Q weaker h = weaker made h

-- a report that ends where the bytes are read
pub read_ended : (command : Command) (most : ℕ) (left : Option (List ℕ)) (stop : Stop) (result : Result Output Stop) → result ≡ Err stop
    → IfReadEnded stop (λ made. IsReadAs left most (Err made)) → IfReadMade result (IsReportOf command most left)
read_ended command most left stop result is ends =
    subst (λ r. IfReadMade r (IsReportOf command most left)) (sym is)
    (read_weaker stop (λ made. IsReadAs left most (Err made)) (IsReportOf command most left)
    (λ made h. (h.0, h.1, ends_there (read_stage most h.0) (IsDocumentReport command) made h.2)) ends)

-- a report that goes on with the document
pub read_went_on : (command : Command) (most : ℕ) (left : Option (List ℕ)) (rows : DocumentModel) (result : Result Output Stop) → IsReadAs left most (Ok rows)
    → IfMade result (IsDocumentReport command rows) → IfReadMade result (IsReportOf command most left)
read_went_on command most left rows result h reported =
    behind_reading result (IsDocumentReport command rows) (IsReportOf command most left)
    (λ made is. (h.0, h.1, goes_on (read_stage most h.0) (IsDocumentReport command) rows made h.2 is)) reported
