use Rattle.std.proofs.Common.{◌≡◌, ◌∙◌, ◌-◌, length, Some, refl, arith}
use Rattle.json.specs.Json.{value, read_key}
use Rattle.json.proofs.Grammar.{read_key-shorter}
use Rattle.serde_json.specs.Data.{put}
use Rattle.json_tree.proofs.Turns.{member_read, members_over}
use Rattle.sm_plan_text.specs.declared.limits.TheConstants.{MOST_DEPTH}
use Rattle.sm_plan_text.proofs.outline.PartialOutline.read_members.Goals as goal

pub members-init : goal.members-init
members-init c = (length c.args.reader.now, omega arith, λ whole is. (whole, is, refl))

pub members-preserved : goal.members-preserved
members-preserved c =
    let p = value MOST_DEPTH in
    let l = c.members in
    let n = l.invariant.0 in
    let k = c.in-Some.name.now in
    let s = c.next_key.new.self in
    let named : read_key l.reader ≡ Some (Some k, s) = grind arith in
    let done = c.in_ok-read_member.ensures in
    let d = done.ok.0 in
    let r = c.read_member.new.reader in
    let less = read_key-shorter l.reader (Some k) s named in
    let lesser = done.shorter in (
      n - 1,
      omega (arith, l.invariant.1),
      λ whole is. let at = l.invariant.2 whole is in (
        put k d at.0,
        done.ok.2 at.0 at.1,
        at.2 ∙ member_read p at.0 n k l.reader s r d (omega (arith, l.invariant.1)) named done.ok.1,
      ),
    )

pub returns : goal.returns
returns c =
    let p = value MOST_DEPTH in
    let l = c.members in
    let n = l.invariant.0 in λ whole is. let at = l.invariant.2 whole is in (
      at.0,
      at.1,
      at.2 ∙ members_over p at.0 n l.reader c.next_key.new.self l.invariant.1 (grind arith),
    )
