-- Replies to approvals that are denied: who is down, and for whom.
use Rattle.std.specs.Prelude.{ℕ, List, [], ◌∷◌, ◌++◌, Option, Some, None, codes, length}
use Rattle.std.specs.List.{flat_map, range_with_len}
use Rattle.std.specs.Option.{option_map_or}
use Rattle.json.specs.Token.{Token, null, string}
use Rattle.sm_driver.specs.Permits.{permit_of}
use Rattle.sm_task_controller.specs.declared.decision.Denied.{Denied}
use Rattle.sm_task_controller.specs.declared.decision.Denied.TheVariants as denied
use Rattle.sm_refusals.specs.Refusals.{RefusalModel, refusal_words}
use Rattle.sm_refusals.specs.Restarts.{denied_refusal}
use Rattle.smpland_lines.specs.Members.{list_member, server_text}
use Rattle.smpland_lines.specs.Refusals.{RefusedLine, plan_denying, shared_refusal}
use Rattle.smpland_state.specs.Given.{given_by}
use Rattle.smpland_state.specs.declared.journal_state.JournalState.{JournalState}

-- the name of a server, if it is down
abbrev pub down_text : JournalState → ℕ → List Token
down_text o v = option_map_or (λ _. string (server_text o.driver.machine.placement.setup v) ∷ []) (permit_of o.driver.permits v) []

-- a name, or null for none
abbrev pub name_or_null : Option (List ℕ) → Token
name_or_null (Some name) = string name
name_or_null None = null

-- the name under which the restart of a server was approved, if it is down: null if none was given, or it was forgotten
abbrev pub by_text : JournalState → ℕ → List Token
by_text o v = option_map_or (λ permit. name_or_null (given_by o.permits permit) ∷ []) (permit_of o.driver.permits v) []

-- what is written for this server alone, or for each
abbrev pub of_servers : JournalState → Option ℕ → (ℕ → List Token) → List Token
of_servers o (Some v) text = text v
of_servers o None text = flat_map text (range_with_len 0 (length o.driver.machine.placement.setup.servers))

-- who is down, and under which names that was approved: of this server alone, or of all
abbrev pub down_members : JournalState → Option ℕ → List Token
down_members o server = list_member (codes "down") (of_servers o server (down_text o))
    ++ list_member (codes "by") (of_servers o server (by_text o))

-- a restart is denied since servers are down
abbrev pub denied_by_down : JournalState → Option ℕ → RefusalModel → RefusedLine
denied_by_down o server r = record {
  kind = r.kind;
  number = Some r.number;
  fields = down_members o server;
  text = refusal_words r;
}

-- Why the restart of a server is denied. If it is down, or too many are, the refusal tells who is.
abbrev pub denied_reply : JournalState → ℕ → Denied → RefusedLine
denied_reply o v denied.AlreadyDown =
    denied_by_down o (Some v) (denied_refusal o.driver.machine.placement.setup None denied.AlreadyDown)
denied_reply o v denied.GlobalCap = denied_by_down o None (denied_refusal o.driver.machine.placement.setup None denied.GlobalCap)
denied_reply o v why = shared_refusal (denied_refusal o.driver.machine.placement.setup (plan_denying why) why)
