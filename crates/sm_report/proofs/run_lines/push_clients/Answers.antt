use Rattle.std.proofs.Common.{◌<◌, ◌≤◌, ◌∙◌, ◌++◌, Option, length, ap, subst, arith, string_bytes}
use Rattle.std.proofs.lemmas.List.{get_or_default}
use Rattle.std.proofs.lemmas.List.Elements.{AllWithin-more, AllWithin-upto, All-from_all_within}
use Rattle.sm_executor.specs.Clients.{IsClient}
use Rattle.sm_router.specs.declared.asking.Asked.{Asked}
use Rattle.sm_report.specs.RunLines.{client_line}
use Rattle.sm_report.proofs.RunStages.{client_added}
use Rattle.sm_report.proofs.run_lines.push_clients.Goals as goal

pub loop-i-preserved : goal.loop-i-preserved
loop-i-preserved g c =
    let is_client = IsClient g.N.Naming.setup g.N.Naming.opened in
    let clients = c.args.clients.now in
    let i = c.loop-i.i in
    let client = c.index-clients-i.result in
    let below : i < length clients = omega arith in
    let added = c.in_ok-push_client.ensures ∙ ap (λ (a : Option Asked). string_bytes c.loop-i.out ++ client_line c.args.config.now i a) c.asked.ensures.answer in
    record {
      lines = client_added c.args.config.now clients i client _ _ _ below c.index-clients-i.is added c.loop-i.invariant.lines;
      ways = AllWithin-more is_client clients 0 i c.loop-i.invariant.ways (λ d. subst is_client (c.index-clients-i.is ∙ get_or_default clients i client d below) c.asked.ensures.way);
    }

pub returns-clause-ways : goal.returns-clause-ways
returns-clause-ways g c =
    let is_client = IsClient g.N.Naming.setup g.N.Naming.opened in
    let clients = c.args.clients.now in
    let end : length clients ≤ c.loop-i.i = omega arith in
    All-from_all_within is_client clients (AllWithin-upto is_client clients 0 c.loop-i.i (length clients) end c.loop-i.invariant.ways)
