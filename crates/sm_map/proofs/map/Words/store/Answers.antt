use Rattle.std.proofs.Common.{◌<◌, ap, ◌∙◌, sym, subst, length, ℕ, arith}
use Rattle.sm_map.specs.declared.rule.View.{View}
use Rattle.sm_map.specs.Entry.{IsInRange}
use Rattle.sm_map.specs.History.{Follows}
use Rattle.sm_map.specs.Models.{WordsModel, PublisherModel, history}
use Rattle.sm_map.proofs.Histories.{in_range_more}
use Rattle.sm_map.proofs.Keeps as keep
use Rattle.sm_map.proofs.map.Words.store.Goals as goal

pub word_of-word-requires : goal.word_of-word-requires
word_of-word-requires c =
    in_range_more _ 1024 _ c.self.invariant.few_servers (subst (λ (w : WordsModel). IsInRange w.servers c.args.entry) (sym c.self.view_is) c.requires.in_range)

pub store-requires : goal.store-requires
store-requires c =
    let same = ap (λ (p : PublisherModel). p.words) c.publisher.view_is ∙ c.requires.publisher ∙ sym c.self.view_is in
    let long = ap (λ (w : WordsModel). length w.opening) c.self.view_is in
    let at_shard = c.number.ensures in
    let below = c.requires.shard in
    let inside : c.number.result < length c.self.inside.table.shared.key.entries.items = omega arith in
    let enough = c.self.invariant.enough in
    let publishes = ap (λ (v : View). v.publishes) c.publisher.invariant.view in
    let good = subst (λ (w : WordsModel). IsInRange w.servers c.args.entry) (sym c.self.view_is) c.requires.in_range in
    let follows = subst (λ (x : PublisherModel × ℕ). Follows (history x.0 x.1) c.args.entry) (λ k. (sym c.publisher.view_is k, sym c.number.ensures k)) c.requires.next in
    (ap (λ (w : WordsModel). w.table) same, omega arith, keep.stores (Unit {0}) _ _ _ _ _ _ _ _ publishes c.word_of-word.ensures.word c.word_of-word.ensures.back good follows inside)
