use Rattle.std.proofs.Common.{◌≡◌, ◌++◌, List}
use Rattle.std.specs.Prelude.{codes}
use Rattle.json.specs.Token.{Token}
use Rattle.sm_driver.specs.Driver.{record_of}
use Rattle.smpland_lines.specs.Members.{number_member, object_member}
use Rattle.smpland_lines.proofs.Written.{next}
use Rattle.smpland_state.specs.State.{log_members, recorded_members, rows_members}
use Rattle.smpland_state.proofs.state.write_recorded.Goals as goal

pub returns : goal.returns
returns c =
    let o = c.args.opened.now in
    let limit : List Token = number_member (codes "limit") (record_of o.driver).place.limit in
    let log : List Token = object_member (codes "log") (log_members o c.args.is_reopening) in
    let rows : List Token = rows_members o c.args.is_reopening in
    let whole : c.write_rows.new.writer.tokens ≡ c.args.writer.now.tokens ++ recorded_members o c.args.is_reopening =
    next c.args.writer.now.tokens limit (log ++ rows) c.in_ok-write_limit.ensures
    (next c.write_limit.new.writer.tokens log rows c.in_ok-write_log.ensures c.in_ok-write_rows.ensures) in
    whole
