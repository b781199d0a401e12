-- Which streams a reply tells the messages of.
use Rattle.std.specs.Prelude.{ℕ, Bool, true, ◌==◌, List, [], ◌∷◌, ◌++◌, Option, Some, None, codes, decimal, map, not}
use Rattle.std.specs.Prelude.{slice_get, if◌then◌else◌}
use Rattle.std.specs.List.{filter, list_any, range_with_len}
use Rattle.json.specs.Token.{Token, number}
use Rattle.sm_reservation.specs.declared.stream_id.StreamId.{StreamId}
use Rattle.sm_protocol.specs.State.{State, is_begun, progress_of, stream_count, stream_id}
use Rattle.sm_protocol.specs.Next.{since_of, unfinished_plans}
use Rattle.sm_driver.specs.Driver.{DriverModel, record_of}
use Rattle.smpland_lines.specs.Members.{list_member, number_member, object_member}
use Rattle.smpland_state.specs.Messages.{orders_member}

-- the streams of a plan
abbrev pub plan_streams : State → ℕ → List StreamId
plan_streams w k = map (stream_id k) (range_with_len 0 (stream_count w k))

-- since when they stand where they stand, by the log's length
abbrev pub sinces_of : State → ℕ → List ℕ
sinces_of w k = map (λ i. since_of w (stream_id k i)) (range_with_len 0 (stream_count w k))

-- a stream does not stand where it stood since then, if it stood anywhere
abbrev pub stands_else : State → StreamId → Option ℕ → Bool
stands_else w id None = true
stands_else w id (Some since) = not (since == since_of w id)

-- the streams of a plan that have come to where they stand since they stood so
abbrev pub gone_on : State → ℕ → List ℕ → List StreamId
gone_on w k sinces = filter (λ id. stands_else w id (slice_get sinces id.stream)) (plan_streams w k)

-- a plan's number, unless it is one of those that go on
abbrev pub ended_text : State → ℕ → List Token
ended_text w k = if list_any (λ j. j == k) (unfinished_plans w) then [] else number (decimal k) ∷ []

-- as a member, the plan if it has ended
abbrev pub ended_member : State → ℕ → List Token
ended_member w k = list_member (codes "ended") (ended_text w k)

-- the messages of these streams of a plan, and whether the plan has ended
abbrev pub plan_told : DriverModel → ℕ → List StreamId → List Token
plan_told d k ids = orders_member d ids ++ ended_member (record_of d) k

-- the same of those that do not stand as they stood
abbrev pub plan_members : DriverModel → ℕ → List ℕ → List Token
plan_members d k sinces = plan_told d k (gone_on (record_of d) k sinces)

-- how many of its instructions a stream has made, none if it has not begun
abbrev pub position_of : State → StreamId → ℕ
position_of w id = if is_begun w id then (progress_of w id).at else 0

-- which stream has made its step, and where it stands
abbrev pub step_members : State → StreamId → List Token
step_members w id =
    number_member (codes "plan") id.plan ++ number_member (codes "stream") id.stream
    ++ number_member (codes "at") (position_of w id)

-- the same as a member
abbrev pub moved_member : State → StreamId → List Token
moved_member w id = object_member (codes "moved") (step_members w id)

-- the stream that has made its step; the messages of these streams of its plan; whether the plan has ended
abbrev pub moved_members : DriverModel → StreamId → List StreamId → List Token
moved_members d id ids = moved_member (record_of d) id ++ plan_told d id.plan ids

-- the same of those that do not stand as they stood
abbrev pub taken_members : DriverModel → StreamId → List ℕ → List Token
taken_members d id sinces = moved_members d id (gone_on (record_of d) id.plan sinces)
