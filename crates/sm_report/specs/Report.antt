-- A report: its text, and how it ends.
use Rattle.std.specs.Prelude.{ℕ, List}
use Rattle.sm_report.specs.declared.status.Status.{Status}
use Rattle.sm_report.specs.declared.status.Status.TheVariants.{Done, Refused, BadInput}

-- the text of a report, and how it ends
pub record Output : Type 0 where
  pub text : List ℕ
  pub status : Status

-- the input is no document for the command
abbrev pub bad_input : List ℕ → Output
bad_input line = record { text = line; status = BadInput }

-- a placement is not opened, or a plan is not accepted
abbrev pub refused : List ℕ → Output
refused line = record { text = line; status = Refused }

-- the command was carried out
abbrev pub done : List ℕ → Output
done text = record { text = text; status = Done }
