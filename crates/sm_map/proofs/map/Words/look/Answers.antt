use Rattle.std.proofs.Common.{◌<◌, ap, ◌∙◌, sym, length, arith}
use Rattle.sm_map.specs.Models.{WordsModel, PassModel}
use Rattle.sm_map.proofs.Keeps as keep
use Rattle.sm_map.proofs.map.Words.look.Goals as goal

pub load-word-requires : goal.load-word-requires
load-word-requires c =
    let same = ap (λ (p : PassModel). p.words) c.pass.view_is ∙ c.requires.pass ∙ sym c.self.view_is in
    let long = ap (λ (w : WordsModel). length w.opening) c.self.view_is in
    let at_shard = c.number.ensures in
    let below = c.requires.shard in
    let inside : c.number.result < length c.self.inside.table.shared.key.entries.items = omega arith in
    let enough = c.self.invariant.enough in
    (ap (λ (w : WordsModel). w.table) same, omega arith, keep.looks (Unit {0}) _ _ _ _ _ _ inside (ap (λ (w : WordsModel). w.servers) same) (ap (λ (w : WordsModel). w.opening) same))
