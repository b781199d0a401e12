-- When an order of the shard is committed, whoever serves then leads, or waits.
use Rattle.std.proofs.Common.{◌≡◌, ◌≢◌, ℕ, inl, inr, refl, sym, ◌∙◌, subst, true, List, [], ◌∷◌}
use Rattle.sm_server.specs.declared.call.Cell.{Cell}
use Rattle.sm_server.specs.declared.call.Cell.TheVariants.{Absent, Prepared, Secondary, Primary, Forwarding}
use Rattle.sm_server.specs.declared.call.Role.TheVariants as role
use Rattle.sm_server.specs.declared.call.Call.{Call}
use Rattle.sm_server.specs.declared.call.Call.TheVariants.{Add, Change, Drop, PrepareAdd, PrepareDrop}
use Rattle.sm_server.specs.Call.{Leads}
use Rattle.sm_placement.specs.Rows.{serves}
use Rattle.sm_placement.specs.Lead.{IsPlain}
use Rattle.laws_network.proofs.Described.{IsDescribed}
use Rattle.laws_data.specs.Shard.{Ends, Event, Goes, Joins, MayHappenInTurn, Releases, Shard, all_left}
use Rattle.laws_service_data.specs.Duties.{ForOrder, IsLeading}
use Rattle.laws_service_data.specs.Laws.{LeadsOrWaits}
use Rattle.laws_service_data.proofs.Leading.{becomes_primary, leads_as_primary, takes_over_alone, waits_still}
use Rattle.laws_service_data.proofs.Rows.{IsRowChange, prepared_for_it, primary_serves, served_before_plain, served_before_prepared}

-- whoever serves leads the data, or waits
abbrev pub EachLeads : Shard → (ℕ → Cell) → Type 0
EachLeads w row = (v : ℕ) → serves row v ≡ true → LeadsOrWaits w v (row v)

-- no two serve
abbrev pub OneServes : (ℕ → Cell) → Type 0
OneServes row = (x y : ℕ) → serves row x ≡ true → serves row y ≡ true → x ≡ y

module _ (w : Shard) (row new : ℕ → Cell) (u n : ℕ) (next : Cell) (c : IsRowChange row new u next) (described : IsDescribed row)
    (one : OneServes row) (one_then : OneServes new) (before : EachLeads w row) where
  abbrev After : List Event → Type 0
  After acts = EachLeads (all_left acts w) new

  -- others serve as before
  as_before : (acts : List Event) → ((v : ℕ) → serves new v ≡ true → (v ≢ u) × (serves row v ≡ true)) → ((x : ℕ) → IsLeading w x → IsLeading (all_left acts w) x) → After acts
  as_before acts served still v s =
      let p = served v s in
      subst (LeadsOrWaits (all_left acts w) v) (sym (c.there v p.0)) (waits_still w (all_left acts w) v (row v) still (before v p.1))

  -- the server serves from now on
  as_primary : (acts : List Event) → next ≡ Primary → IsLeading (all_left acts w) u → After acts
  as_primary acts e l v s =
      let here : serves new u ≡ true = primary_serves new u (c.here ∙ e) in
      subst (λ x. LeadsOrWaits (all_left acts w) x (new x)) (one_then u v here s) (leads_as_primary (all_left acts w) u (new u) l)

  -- nobody serves from now on
  nobody : (acts : List Event) → row u ≡ Primary → IsPlain next → After acts
  nobody acts e plain v s =
      let p = served_before_plain row new u next c plain v s in
      absurd (p.0 (one v u p.1 (primary_serves row u e)))

  -- a replica that does not lead goes
  goes : (acts : List Event) → next ≡ Absent → acts ≡ Goes u ∷ [] → After acts
  goes acts e d = subst After (sym d) (as_before (Goes u ∷ []) (served_before_plain row new u next c (subst IsPlain (sym e) tt)) (λ x l. l))

  -- whatever order is committed
  pub commits : (call : Call) (cell : Cell) → row u ≡ cell → Leads call cell next → (acts : List Event) → ForOrder w u n call cell acts → MayHappenInTurn w acts → After acts
  commits (PrepareAdd a k) cell e led acts d m =
      subst After (sym d) (as_before (Joins u ∷ [])
      (served_before_prepared row new u a k (subst (IsRowChange row new u) led.1 c) described (e ∙ led.0)) (λ x l. l))
  commits (PrepareDrop to k) cell e led acts d m =
      let primary : row u ≡ Primary = e ∙ led.0 in
      let leads : IsLeading w u = subst (LeadsOrWaits w u) primary (before u (primary_serves row u primary)) in
      subst After (sym d) (λ v s.
      let p = prepared_for_it row new u to k (subst (IsRowChange row new u) led.1 c) primary one v s in
      subst (LeadsOrWaits w v) (sym p.1) (inr leads))
  commits (Add role.Primary) cell e (inl h) acts d m = absurd (subst (λ x. ForOrder w u n (Add role.Primary) x acts) h.0 d)
  commits (Add role.Primary) cell e (inr h) acts d m =
      as_primary acts h.2 (takes_over_alone w u acts (subst (λ x. ForOrder w u n (Add role.Primary) x acts) h.0.2 d) m)
  commits (Add role.Secondary) cell e (inl h) acts d m =
      subst After (sym d) (as_before (Joins u ∷ []) (served_before_plain row new u next c (subst IsPlain (sym h.1) tt)) (λ x l. l))
  commits (Add role.Secondary) cell e (inr h) acts d m = absurd (let z = h.1 in cc)
  commits (Change from role.Primary) cell e led acts d m = as_primary acts led.2 (becomes_primary w u n acts d m)
  commits (Change role.Primary role.Secondary) cell e led acts d m =
      subst After (sym d) (nobody (Ends n ∷ []) (e ∙ led.1) (subst IsPlain (sym led.2) tt))
  commits (Change role.Secondary role.Secondary) cell e led acts d m = absurd (led.0 refl)
  commits Drop Primary e led acts d m =
      subst After (sym d.1) (nobody (Ends n ∷ Releases u d.0 ∷ Goes u ∷ []) e (subst IsPlain (sym led.1) tt))
  commits Drop Absent e led acts d m = goes acts led.1 d
  commits Drop Secondary e led acts d m = goes acts led.1 d
  commits Drop (Prepared a k) e led acts d m = goes acts led.1 d
  commits Drop (Forwarding a k) e led acts d m = goes acts led.1 d
