use Rattle.std.proofs.Common.{◌≡◌, ◌∷◌, ◌++◌, map, codes, subst}
use Rattle.json.specs.Token.{key}
use Rattle.sm_placement.specs.Setup.{names_of_servers, names_of_shards}
use Rattle.sm_plan_text.specs.PlanTexts.{tokens_of, whole_data, list_data, parcel_data, stream_data, has_retries, format_of}
use Rattle.sm_plan_text.proofs.Written.{four_members_done}
use Rattle.sm_plan_text.proofs.writing.write_members.Goals as goal

pub returns-clause-tokens : goal.returns-clause-tokens
returns-clause-tokens c =
    let plan = c.args.plan.now in
    let shards = names_of_shards c.args.config.now in
    let servers = names_of_servers c.args.config.now in
    let streams = subst (λ retries. c.member-2.new.out.tokens ≡ c.member.new.out.tokens ++ key (codes "streams") ∷ tokens_of (list_data (map (stream_data shards servers retries) plan.streams)))
    c.has_retries-retries.ensures (rw c.streams.ensures.value at c.in_ok-member-2.ensures.tokens) in
    four_members_done _ _ _ _ _ (whole_data plan.budget) (whole_data (format_of plan)) (list_data (map (parcel_data shards servers) plan.signals)) (list_data (map (stream_data shards servers (has_retries plan)) plan.streams)) _ _ _ _ _ _ _
    c.in_ok-begin_object.ensures.ok (rw c.budget.ensures.value at c.in_ok-write_count.ensures.tokens)
    (rw (c.format_of.ensures, c.has_retries-retries.ensures) at c.in_ok-write_count-2.ensures.tokens)
    (rw c.signals.ensures.value at c.in_ok-member.ensures.tokens) streams c.end_object.ensures.ok
