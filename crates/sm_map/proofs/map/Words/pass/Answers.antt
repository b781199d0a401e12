use Rattle.std.proofs.Common.{ap, ◌∙◌, sym}
use Rattle.sm_map.specs.declared.rule.View.{View}
use Rattle.sm_map.specs.Models.{WordsModel, PublisherModel}
use Rattle.sm_map.proofs.Keeps as keep
use Rattle.sm_map.proofs.map.Words.pass.Goals as goal

pub split_seat-seat-requires : goal.split_seat-seat-requires
split_seat-seat-requires c =
    let same = ap (λ (p : PublisherModel). p.words) c.publisher.view_is ∙ c.requires ∙ sym c.self.view_is in
    (ap (λ (w : WordsModel). w.table) same, c.self.invariant.some, keep.splits (Unit {0}) _ _ _ _ (ap (λ (v : View). v.publishes) c.publisher.invariant.view))
