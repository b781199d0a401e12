use Rattle.std.proofs.Common.{◌≡◌, ◌∙◌, [], ap, sym, subst}
use Rattle.std.proofs.lemmas.Result.{err_from_is_err_and}
use Rattle.serde_json.specs.Data.{Data}
use Rattle.sm_placement.specs.Setup.{Setup}
use Rattle.sm_placement.specs.Config.{setup_of, config_fault}
use Rattle.sm_plan_text.specs.Documents.{DocumentModel, document_faults, IsDocument}
use Rattle.sm_plan_text.specs.Reading.{rows_of_parts}
use Rattle.sm_plan_text.proofs.Faultless.{none_noted}
use Rattle.sm_plan_text.proofs.Known.{setup_is_good, document_is_known}
use Rattle.sm_plan_text.proofs.document.from_outline.Goals as goal

pub configuration-requires : goal.configuration-requires
configuration-requires c =
    let outlined = c.requires in
    let d : Data = outlined.0 in
    let faultless : document_faults d ≡ [] = none_noted (document_faults d) (sym (c.in_ok-servers.ensures.faults d outlined.1) ∙ c.in_default.is) in
    ap (λ servers. config_fault (setup_of servers c.deref-2.result.now)) c.deref.ensures.value ∙
    ap (λ shards. config_fault (setup_of c.in_ok-servers.servers.rows.items shards)) c.deref-2.ensures.value ∙
    ap (λ (rows : DocumentModel). config_fault rows.setup) (c.in_ok-servers.ensures.rows d outlined.1 c.in_default.is) ∙
    setup_is_good d faultless

pub returns-clause-known : goal.returns-clause-known
returns-clause-known c =
    let outlined = c.requires in
    let d : Data = outlined.0 in
    let faultless : document_faults d ≡ [] = none_noted (document_faults d) (sym (c.in_ok-servers.ensures.faults d outlined.1) ∙ c.in_default.is) in
    let setup : c.in_ok-config.config ≡ setup_of c.in_ok-servers.servers.rows.items c.in_ok-servers.shards.rows.items =
    c.in_ok-config.ensures ∙ ap (λ servers. setup_of servers c.deref-2.result.now) c.deref.ensures.value ∙ ap (λ shards. setup_of c.in_ok-servers.servers.rows.items shards) c.deref-2.ensures.value in
    let with_setup : Setup → DocumentModel = λ s. record (rows_of_parts (c.in_ok-servers.servers, c.in_ok-servers.shards, c.in_ok-servers.work)) { setup = s } in
    subst IsDocument (sym (ap with_setup setup ∙ c.in_ok-servers.ensures.rows d outlined.1 c.in_default.is)) (document_is_known d faultless)

pub returns-in_err-config-clause-refused : goal.returns-in_err-config-clause-refused
returns-in_err-config-clause-refused c = λ d is.
    let p = err_from_is_err_and c.from_residual-in_err-config.result c.from_residual-in_err-config.ensures.1 in
    rw p.1 (λ other. absurd (other p.2))
