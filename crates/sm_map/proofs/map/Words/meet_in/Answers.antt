use Rattle.std.proofs.Common.{◌<◌, ap, ◌∙◌, sym, subst, length, ℕ, List, arith}
use Rattle.sm_placement.specs.declared.entry.Entry.{Entry}
use Rattle.sm_map.specs.declared.rule.View.{View}
use Rattle.sm_map.specs.History.{AllStand}
use Rattle.sm_map.specs.Rule.{joined}
use Rattle.sm_map.specs.Models.{WordsModel, PublisherModel, PassModel}
use Rattle.sm_map.proofs.Keeps as keep
use Rattle.sm_map.proofs.map.Words.meet_in.Goals as goal

pub split_seat-place-requires : goal.split_seat-place-requires
split_seat-place-requires c =
    let same = ap (λ (p : PublisherModel). p.words) c.publisher.view_is ∙ c.requires.publisher ∙ sym c.self.view_is in
    (ap (λ (w : WordsModel). w.table) same, c.self.invariant.some, keep.splits (Unit {0}) _ _ _ _ (ap (λ (v : View). v.publishes) c.publisher.invariant.view))

pub join_seat-requires : goal.join_seat-requires
join_seat-requires c =
    let same = ap (λ (p : PublisherModel). p.words) c.publisher.view_is ∙ c.requires.publisher ∙ sym c.self.view_is in
    let met = ap (λ (p : PassModel). p.words) c.pass.view_is ∙ c.requires.pass ∙ sym c.self.view_is in
    let seat = c.replace-seat.ensures.value in (
      c.split_seat-place.ensures.0 ∙ ap (λ (w : WordsModel). w.table) same,
      ap (λ s. s.table_id) seat ∙ ap (λ (w : WordsModel). w.table) met,
      ap (λ s. s.me.1) seat ∙ c.pass.invariant.slots,
      c.self.invariant.some,
      keep.joins (Unit {0}) _ _ _ _ _ _,
    )

pub load-word-requires : goal.load-word-requires
load-word-requires c =
    let same = ap (λ (p : PublisherModel). p.words) c.publisher.view_is ∙ c.requires.publisher ∙ sym c.self.view_is in
    let long = ap (λ (w : WordsModel). length w.opening) c.self.view_is in
    let at_shard = c.number.ensures in
    let below = c.requires.shard in
    let inside : c.number.result < length c.self.inside.table.shared.key.entries.items = omega arith in
    let enough = c.self.invariant.enough in
    let view = ap (λ m. m.0) c.join_seat.ensures.2 ∙ (λ k. joined (c.split_seat-place.ensures.2 k).0 (c.replace-seat.ensures.value k).me.0) in (
      c.join_seat.ensures.0 ∙ c.split_seat-place.ensures.0 ∙ ap (λ (w : WordsModel). w.table) same,
      omega arith,
      keep.meets (Unit {0}) _ _ _ _ _ _ (ap (λ (v : View). v.publishes) view ∙ ap (λ (v : View). v.publishes) c.publisher.invariant.view) inside (ap (λ (v : View). v.servers) view ∙ ap (λ (w : WordsModel). w.servers) same),
    )

pub split_seat-requires : goal.split_seat-requires
split_seat-requires c =
    let same = ap (λ (p : PublisherModel). p.words) c.publisher.view_is ∙ c.requires.publisher ∙ sym c.self.view_is in
    let view = ap (λ m. m.0) c.join_seat.ensures.2 ∙ (λ k. joined (c.split_seat-place.ensures.2 k).0 (c.replace-seat.ensures.value k).me.0) in
    let publishes = ap (λ (v : View). v.publishes) c.load-word.ensures.2.finds.view ∙ ap (λ (v : View). v.publishes) view ∙ ap (λ (v : View). v.publishes) c.publisher.invariant.view in (
      c.load-word.ensures.0 ∙ c.join_seat.ensures.0 ∙ c.split_seat-place.ensures.0 ∙ ap (λ (w : WordsModel). w.table) same,
      c.self.invariant.some,
      keep.splits (Unit {0}) _ _ _ _ publishes,
    )

pub returns-clause-stand : goal.returns-clause-stand
returns-clause-stand c =
    let view = ap (λ m. m.0) c.join_seat.ensures.2 ∙ (λ k. joined (c.split_seat-place.ensures.2 k).0 (c.replace-seat.ensures.value k).me.0) in
    let opening = ap (λ (v : View). v.opening) view ∙ ap (λ (p : PublisherModel). p.words.opening) c.publisher.view_is in
    let stores = ap (λ (v : View). v.stores) view ∙ ap (λ (p : PublisherModel). p.stores) c.publisher.view_is in
    let seen = ap (λ (v : View). v.seen) view ∙ ap (λ (p : PassModel). p.seen) c.pass.view_is in
    subst (λ (x : List Entry × List (ℕ × Entry) × List (ℕ × Entry)). AllStand x.0 x.1 x.2) (λ k. (opening k, stores k, seen k)) c.load-word.ensures.2.stand
