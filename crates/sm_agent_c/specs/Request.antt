-- Requests of C, and where they are executed.
use Rattle.std.specs.Prelude.{ℕ, ◌==◌, not, Option, Some, None, if◌then◌else◌}
use Rattle.sm_agent.specs.declared.base.Base.{Base}
use Rattle.sm_agent.specs.declared.request.Request.{Request}
use Rattle.sm_agent.specs.declared.request.Request.TheVariants.{Direct, Passed}
use Rattle.sm_agent.specs.declared.request.Routing.{Routing}
use Rattle.sm_agent.specs.declared.request.Routing.TheVariants.{Execute, PassOn, NotHere, NotYet}
use Rattle.sm_agent.specs.Request.{routed}
use Rattle.sm_agent_c.specs.declared.code.TheConstants as code
use Rattle.sm_agent_c.specs.declared.slot.Reading.{Reading}
use Rattle.sm_agent_c.specs.declared.slot.Reading.TheVariants.{Unknown, Known}
use Rattle.sm_agent_c.specs.declared.request.RawRequest.{RawRequest}
use Rattle.sm_agent_c.specs.Code.{is_flag}

-- what a request of C stands for, if its flag is in range
abbrev pub request_of : RawRequest → Option Request
request_of raw =
    if not (is_flag raw.is_passed) then None
    else if raw.is_passed == 0 then Some Direct
    else Some (Passed (record { from = raw.party; handover = raw.handover; cut = raw.cut }))

-- where a request is executed; zeros are the slot of an Unknown server
abbrev pub route_of : Option Base → Reading → ℕ → Option Request → Option Routing
route_of (Some base) (Known slot) applied (Some request) = Some (routed base slot applied request)
route_of (Some base) Unknown applied (Some request) = Some NotHere
route_of _ _ applied _ = None

-- the answer to a request
abbrev pub routing_answer : Option Routing → ℕ
routing_answer None = code.BAD
routing_answer (Some Execute) = code.EXECUTE
routing_answer (Some (PassOn to handover cut)) = code.PASS_ON
routing_answer (Some NotHere) = code.NOT_HERE
routing_answer (Some NotYet) = code.NOT_YET

-- how a request is to be passed on, if it is
abbrev pub passed_request : RawRequest → Option Routing → RawRequest
passed_request raw (Some (PassOn to handover cut)) = record { handover = handover; cut = cut; party = to; is_passed = 1 }
passed_request raw _ = raw
