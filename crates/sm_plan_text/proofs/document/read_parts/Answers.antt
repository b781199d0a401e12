use Rattle.std.proofs.Common.{◌≡◌, subst, ◌∙◌, ◌++◌, ℕ, List, [], map, option_map, option_and_then, unwrap_or, None, false, bytes_eq, refl, ap, sym, append_assoc}
use Rattle.std.proofs.lemmas.Result.{err_from_is_err_and}
use Rattle.serde_json.specs.Data.{Data}
use Rattle.json_tree.specs.View.{view}
use Rattle.sm_plan_text.specs.declared.fault.TextFault.{TextFault}
use Rattle.sm_plan_text.specs.declared.member.Member.{Member}
use Rattle.sm_plan_text.specs.declared.member.Member.TheVariants as members
use Rattle.sm_plan_text.specs.declared.cursor.Cursor.{Cursor}
use Rattle.sm_plan_text.specs.Members.{text_of}
use Rattle.sm_plan_text.specs.Faults.{noted}
use Rattle.sm_plan_text.specs.Values.{found, limited, list_in, items_of, entries_in, entries_found, names_in, id_named}
use Rattle.sm_plan_text.specs.Tables.{Row, own_faults, walked}
use Rattle.sm_plan_text.specs.Servers.{server_faults, server_in, down_in}
use Rattle.sm_plan_text.specs.Shards.{shard_faults, shard_in, listed_in, cells_in}
use Rattle.sm_plan_text.specs.Calls.{call_faults, call_in}
use Rattle.sm_plan_text.specs.Parcels.{HaveIds}
use Rattle.sm_plan_text.specs.Plans.{faults_within, plan_faults, plan_in}
use Rattle.sm_plan_text.specs.Events.{event_faults, event_in}
use Rattle.sm_plan_text.specs.Moves.{move_faults, move_in}
use Rattle.sm_plan_text.specs.Work.{AreKept, IsWork}
use Rattle.sm_plan_text.specs.Documents.{document_table, document_faults, servers_in, shards_in, server_names_in, shard_names_in}
use Rattle.sm_plan_text.proofs.DocumentLemmas.{two_noted, five_noted}
use Rattle.sm_plan_text.proofs.PlanLemmas.{none_at_all}
use Rattle.sm_plan_text.proofs.Known.{names_are_few}
use Rattle.sm_plan_text.proofs.OutlineLemmas.{differs, outlined_others, outlined_own, outlined_lists}
use Rattle.sm_plan_text.specs.declared.limits.TheConstants.{LOG_PLACES}
use Rattle.sm_plan_code.specs.declared.limits.TheConstants.{MOST_PLACES}
use Rattle.sm_placement.specs.declared.limits.TheConstants.{MOST_SERVERS}
use Rattle.sm_plan_text.proofs.document.read_parts.Goals as goal

pub returns-clause-faults : goal.returns-clause-faults
returns-clause-faults c = λ d is.
    let kept : Data = view c.args.tree.now in
    let others = outlined_others c.args.early kept d is in
    let apart_data : view c.new-lists.result.tree.now ≡ kept = ap (λ (p : Cursor). view p.tree.now) c.new-lists.ensures in
    let server_items : map view c.entries.result.now ≡ servers_in d = c.entries.ensures ∙ ap (entries_in members.Servers) apart_data ∙ sym (ap entries_found (others members.Servers (differs _ _ refl) (differs _ _ refl))) in
    let shard_items : map view c.entries-shard_items.result.now ≡ shards_in d = c.entries-shard_items.ensures ∙ ap (entries_in members.Shards) apart_data ∙ sym (ap entries_found (others members.Shards (differs _ _ refl) (differs _ _ refl))) in
    let S : List (List ℕ) = server_names_in d in
    let N : List (List ℕ) = shard_names_in d in
    let servers_read : c.in_ok-servers.servers.names ≡ S = c.in_ok-servers.ensures.names ∙ ap names_in server_items in
    let shards_read : c.in_ok-shards.shards.names ≡ N = c.in_ok-shards.ensures.names ∙ ap names_in shard_items in
    let doc : view c.new-cursor.result.tree.now ≡ kept = ap (λ (p : Cursor). view p.tree.now) c.new-cursor.ensures in
    let parent : c.new-cursor.result.member ≡ members.Document = ap (λ (p : Cursor). p.member) c.new-cursor.ensures in
    let servers : c.new-cursor.result.scope.servers.now ≡ S = ap (λ (p : Cursor). p.scope.servers.now) c.new-cursor.ensures ∙ servers_read in
    let shards : c.new-cursor.result.scope.shards.now ≡ N = ap (λ (p : Cursor). p.scope.shards.now) c.new-cursor.ensures ∙ shards_read in
    let at : (m : Member) → bytes_eq (text_of m) (text_of members.Calls) ≡ false → bytes_eq (text_of m) (text_of members.Events) ≡ false → found m (view c.new-cursor.result.tree.now) ≡ found m d =
    λ m calls events. ap (found m) doc ∙ sym (others m (differs _ _ calls) (differs _ _ events)) in
    let lists : AreKept c.new-cursor.result.scope c.args.early (view c.new-cursor.result.tree.now) (found members.Calls d) (found members.Events d) =
    subst (λ (o : Data). AreKept c.new-cursor.result.scope c.args.early o (found members.Calls d) (found members.Events d)) (sym doc)
    (outlined_lists c.args.early kept d is _ _ (ap (λ (p : Cursor). p.scope.shards.now) c.new-cursor.ensures ∙ c.in_ok-shards.ensures.names ∙ ap names_in (c.entries-shard_items.ensures ∙ ap (entries_in members.Shards) apart_data))
    (ap (λ (p : Cursor). p.scope.servers.now) c.new-cursor.ensures ∙ c.in_ok-servers.ensures.names ∙ ap names_in (c.entries.ensures ∙ ap (entries_in members.Servers) apart_data))) in
    let own : List TextFault = own_faults members.Document (document_table N S) d in
    let of_servers : List TextFault = walked server_faults [] (servers_in d) in
    let of_shards : List TextFault = walked (shard_faults S) [] (shards_in d) in
    let of_calls : List TextFault = walked (call_faults N S) [] (entries_in members.Calls d) in
    let of_plan : List TextFault = faults_within (plan_faults members.Plan N S []) (found members.Plan d) in
    let of_plans : List TextFault = walked (plan_faults members.Plans N S) [] (entries_in members.Plans d) in
    let of_events : List TextFault = walked (event_faults N S) [] (entries_in members.Events d) in
    let of_moves : List TextFault = walked (move_faults N S) [] (entries_in members.Moves d) in
    let apart = two_noted _ _ _ of_servers of_shards
    (c.in_ok-servers.ensures.faults ∙ (λ j. noted None (walked server_faults [] (server_items j))))
    (c.in_ok-shards.ensures.faults ∙ (λ j. noted c.read_servers.new.faults.lowest (walked (shard_faults (servers_read j)) [] (shard_items j)))) in
    let at_own = c.in_ok-note_own.ensures ∙ ap (λ (rows : List Row). noted c.args.faults.now.lowest (own_faults c.new-cursor.result.member rows (view c.new-cursor.result.tree.now))) (c.document_rules.ensures c.new-cursor.result.scope) ∙ (λ j. noted c.args.faults.now.lowest (own_faults (parent j) (document_table (shards j) (servers j)) (doc j))) ∙ sym (ap (noted c.args.faults.now.lowest) (outlined_own c.args.early kept d is N S)) in
    let to_shards = two_noted _ _ _ own (of_servers ++ of_shards) at_own (c.append.ensures (of_servers ++ of_shards) apart) in
    let at_work = c.in_ok-work.ensures.faults (found members.Calls d) (found members.Events d) lists ∙ (λ j. noted (noted (noted (noted (noted c.append.new.self.lowest
    (walked (call_faults (shards j) (servers j)) [] (entries_in members.Calls d)))
    (faults_within (plan_faults members.Plan (shards j) (servers j) []) (at members.Plan refl refl j)))
    (walked (plan_faults members.Plans (shards j) (servers j)) [] (entries_found (at members.Plans refl refl j))))
    (walked (event_faults (shards j) (servers j)) [] (entries_in members.Events d)))
    (walked (move_faults (shards j) (servers j)) [] (entries_found (at members.Moves refl refl j)))) in
    five_noted _ _ _ (own ++ (of_servers ++ of_shards)) of_calls of_plan of_plans of_events of_moves to_shards at_work ∙
    ap (λ front. noted c.args.faults.now.lowest (((((front ++ of_calls) ++ of_plan) ++ of_plans) ++ of_events) ++ of_moves)) (sym (append_assoc own of_servers of_shards))

pub returns-clause-rows : goal.returns-clause-rows
returns-clause-rows c = λ d is none.
    let kept : Data = view c.args.tree.now in
    let others = outlined_others c.args.early kept d is in
    let apart_data : view c.new-lists.result.tree.now ≡ kept = ap (λ (p : Cursor). view p.tree.now) c.new-lists.ensures in
    let server_items : map view c.entries.result.now ≡ servers_in d = c.entries.ensures ∙ ap (entries_in members.Servers) apart_data ∙ sym (ap entries_found (others members.Servers (differs _ _ refl) (differs _ _ refl))) in
    let shard_items : map view c.entries-shard_items.result.now ≡ shards_in d = c.entries-shard_items.ensures ∙ ap (entries_in members.Shards) apart_data ∙ sym (ap entries_found (others members.Shards (differs _ _ refl) (differs _ _ refl))) in
    let servers_read : c.in_ok-servers.servers.names ≡ server_names_in d = c.in_ok-servers.ensures.names ∙ ap names_in server_items in
    let shards_read : c.in_ok-shards.shards.names ≡ shard_names_in d = c.in_ok-shards.ensures.names ∙ ap names_in shard_items in
    let N : List (List ℕ) = c.new-cursor.result.scope.shards.now in
    let S : List (List ℕ) = c.new-cursor.result.scope.servers.now in
    let doc : view c.new-cursor.result.tree.now ≡ kept = ap (λ (p : Cursor). view p.tree.now) c.new-cursor.ensures in
    let servers : S ≡ server_names_in d = ap (λ (p : Cursor). p.scope.servers.now) c.new-cursor.ensures ∙ servers_read in
    let shards : N ≡ shard_names_in d = ap (λ (p : Cursor). p.scope.shards.now) c.new-cursor.ensures ∙ shards_read in
    let at : (m : Member) → bytes_eq (text_of m) (text_of members.Calls) ≡ false → bytes_eq (text_of m) (text_of members.Events) ≡ false → found m (view c.new-cursor.result.tree.now) ≡ found m d =
    λ m calls events. ap (found m) doc ∙ sym (others m (differs _ _ calls) (differs _ _ events)) in
    let lists : AreKept c.new-cursor.result.scope c.args.early (view c.new-cursor.result.tree.now) (found members.Calls d) (found members.Events d) =
    subst (λ (o : Data). AreKept c.new-cursor.result.scope c.args.early o (found members.Calls d) (found members.Events d)) (sym doc)
    (outlined_lists c.args.early kept d is _ _ (ap (λ (p : Cursor). p.scope.shards.now) c.new-cursor.ensures ∙ c.in_ok-shards.ensures.names ∙ ap names_in (c.entries-shard_items.ensures ∙ ap (entries_in members.Shards) apart_data))
    (ap (λ (p : Cursor). p.scope.servers.now) c.new-cursor.ensures ∙ c.in_ok-servers.ensures.names ∙ ap names_in (c.entries.ensures ∙ ap (entries_in members.Servers) apart_data))) in
    let known_few = names_are_few d (none_at_all _ _ (document_faults d) (returns-clause-faults c d is) none) in
    let few : HaveIds N S = subst (λ names. HaveIds names S) (sym shards) (subst (HaveIds (shard_names_in d)) (sym servers) known_few) in
    let work : IsWork c.new-cursor.result.scope (view c.new-cursor.result.tree.now) (found members.Calls d) (found members.Events d) c.in_ok-work.work = c.in_ok-work.ensures.work (found members.Calls d) (found members.Events d) lists few none in
    λ k. record {
      setup = record {
        servers = (c.in_ok-servers.ensures.rows ∙ ap (map server_in) server_items) k;
        shards = (c.in_ok-shards.ensures.rows ∙ ap (map shard_in) shard_items) k;
      };
      cells = (c.in_ok-shards.ensures.cells ∙ (λ j. cells_in (servers_read j) (shard_items j))) k;
      listed = (c.in_ok-shards.ensures.listed ∙ (λ j. map (listed_in (servers_read j)) (shard_items j))) k;
      down = (c.in_ok-servers.ensures.down ∙ ap down_in server_items) k;
      limit = (work.limit ∙ (λ j. unwrap_or (option_map (limited MOST_SERVERS) (at members.Limit refl refl j)) 0)) k;
      log = (work.log ∙ (λ j. unwrap_or (option_map (limited MOST_PLACES) (at members.Log refl refl j)) LOG_PLACES)) k;
      calls = (work.calls ∙ (λ j. option_map (map (call_in (shards j) (servers j))) (list_in members.Calls d))) k;
      plan = (work.plan ∙ (λ j. option_map (plan_in (shards j) (servers j)) (at members.Plan refl refl j))) k;
      plans = (work.plans ∙ (λ j. option_map (map (plan_in (shards j) (servers j))) (option_map items_of (at members.Plans refl refl j)))) k;
      events = (work.events ∙ (λ j. option_map (map (event_in (shards j) (servers j))) (list_in members.Events d))) k;
      moves = (work.moves ∙ (λ j. option_map (map (move_in (shards j) (servers j))) (option_map items_of (at members.Moves refl refl j)))) k;
      drain = (work.drain ∙ (λ j. option_and_then (id_named (servers j)) (at members.Drain refl refl j))) k;
      asks = (work.asks ∙ (λ j. map (λ entry. unwrap_or (id_named (shards j) entry) 0) (entries_found (at members.Asks refl refl j)))) k;
    }

pub returns-in_err-note_own-clause-faults : goal.returns-in_err-note_own-clause-faults
returns-in_err-note_own-clause-faults c = λ d is. rw (err_from_is_err_and c.from_residual-in_err-note_own.result c.from_residual-in_err-note_own.ensures.1).1 tt

pub returns-in_err-work-clause-faults : goal.returns-in_err-work-clause-faults
returns-in_err-work-clause-faults c = λ d is. rw (err_from_is_err_and c.from_residual-in_err-work.result c.from_residual-in_err-work.ensures.1).1 tt
