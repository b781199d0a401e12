-- Replies about a plan that has begun.
use Rattle.std.specs.Prelude.{ℕ, ◌==◌, ◌&&◌, Bool, true, List, [], ◌∷◌, ◌++◌, codes, count_by, sum_by, if◌then◌else◌}
use Rattle.json.specs.Token.{Token, boolean, key}
use Rattle.sm_plan_code.specs.Instr.{is_call}
use Rattle.sm_protocol.specs.State.{plan_at, stream_count}
use Rattle.sm_driver.specs.Driver.{DriverModel, record_of}
use Rattle.smpland_lines.specs.Members.{list_member, number_member, object_member}
use Rattle.smpland_state.specs.declared.begun_plan.BegunPlan.{BegunPlan}
use Rattle.smpland_state.specs.Replies.{plan_members}

-- a plan of a driver: how many calls and streams it has
abbrev pub begun_plan : DriverModel → ℕ → BegunPlan
begun_plan d k = record {
  epoch = d.epoch;
  number = k;
  calls = sum_by (λ stream. count_by is_call stream.code) (plan_at (record_of d) k).streams;
  streams = stream_count (record_of d) k;
}

-- its number, how many calls and streams it has, and its epoch
abbrev pub size_of_plan : BegunPlan → List Token
size_of_plan p =
    number_member (codes "plan") p.number
    ++ number_member (codes "calls") p.calls
    ++ number_member (codes "streams") p.streams
    ++ number_member (codes "epoch") p.epoch

-- these, as a member
abbrev pub begun_member : BegunPlan → List Token
begun_member p = object_member (codes "begun") (size_of_plan p)

-- a plan that has begun, the messages of all its streams, and whether it has ended
abbrev pub begun_members : DriverModel → BegunPlan → List Token
begun_members d p = begun_member p ++ plan_members d p.number []

-- no orders have come up, and no plan has ended
abbrev pub nothing_new : List Token
nothing_new = list_member (codes "orders") [] ++ list_member (codes "ended") []

-- the messages that a plan's streams stand before now, if it is one of the present epoch, and that goes on
abbrev pub plan_members_again : DriverModel → BegunPlan → Bool → List Token
plan_members_again d p goes_on = if goes_on && (p.epoch == d.epoch) then plan_members d p.number [] else nothing_new

-- a plan that had begun before, with these
abbrev pub begun_again_members : DriverModel → BegunPlan → Bool → List Token
begun_again_members d p goes_on =
    begun_member p ++ key (codes "again") ∷ boolean true ∷ plan_members_again d p goes_on
