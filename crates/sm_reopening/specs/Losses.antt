-- The shards that may have lost acknowledged writes. A primary may have acknowledged some alone, unless it was told how
-- many copies there are of each before.
use Rattle.std.specs.Prelude.{ℕ, ◌&&◌, ◌||◌, ◌==◌, Bool, is_none, is_some, length, nat_le, nat_lt, not}
use Rattle.sm_server.specs.Cell.{is_absent, is_secondary}
use Rattle.sm_placement.specs.Lead.{has_part}
use Rattle.sm_placement.specs.Opening.{first_below}
use Rattle.sm_placement.specs.Sums.{count_below}
use Rattle.laws_network.specs.Reopening.{Server}
use Rattle.sm_reopening.specs.declared.ongoing.OngoingReopening.{OngoingReopening}
use Rattle.sm_reopening.specs.Ongoing.{net_reopening, recorded_place, recorded_setup, told_copies}
use Rattle.sm_reopening.specs.Proposal.{Documented, has_no_slots, has_whole}
use Rattle.sm_reopening.specs.Survivors.{standing_of}

-- a server to which a reopening that was replaced has sent a settle has no slots any more
abbrev pub has_lost_settled : OngoingReopening → ℕ → Bool
has_lost_settled x v = (net_reopening x).promised v && has_no_slots x v

-- some server is one
abbrev pub is_settled_lost : OngoingReopening → Bool
is_settled_lost x = is_some (first_below (net_reopening x).servers (has_lost_settled x))

-- The server is the shard's primary still: it has told so, or is carried over as it is recorded. If a settle's taker
-- has lost its slots, so that it may have been primary since, only another one counts to which a settle was sent.
abbrev pub is_primary_still : OngoingReopening → ℕ → ℕ → Bool
is_primary_still x s v = nat_lt 3 (standing_of x s v).claim && ((net_reopening x).promised v || not (is_settled_lost x))

-- the server is recorded with a part in the shard's lead: as its primary, or in a handover
abbrev pub has_recorded_part : OngoingReopening → ℕ → ℕ → Bool
has_recorded_part x s v = has_part ((recorded_place x).cells s v)

-- The server may have served the shard: it is recorded with a part in its lead, or as a secondary of a shard without a
-- lead, whose primary it may have become since.
abbrev pub may_have_served : OngoingReopening → ℕ → ℕ → Bool
may_have_served x s v =
    has_recorded_part x s v
    || (is_secondary ((recorded_place x).cells s v)
    && is_none (first_below (net_reopening x).servers (has_recorded_part x s)))

-- the server may have served any shard: a reopening that was replaced sent it a settle, or nothing is recorded
abbrev pub may_have_served_any : OngoingReopening → ℕ → Bool
may_have_served_any x v = (net_reopening x).promised v || (length (recorded_setup x).servers == 0)

-- the server and the shard are recorded: an order may have added the one to the other
abbrev pub may_have_order : OngoingReopening → ℕ → ℕ → Bool
may_have_order x s v = nat_lt v (length (recorded_setup x).servers) && nat_lt s (length (recorded_setup x).shards)

-- The server may have been the shard's first primary, and nobody has recorded that: it has no slots any more, nobody is
-- recorded with a part in the shard's lead, and an order or a settle may have made it so; or nothing is recorded.
abbrev pub may_be_first : OngoingReopening → ℕ → ℕ → Bool
may_be_first x s v =
    (has_no_slots x v && is_none (first_below (net_reopening x).servers (has_recorded_part x s)))
    && (may_have_served_any x v || may_have_order x s v)

-- a server that may have served the shard is lost or Unknown, or tells nothing of it
abbrev pub has_gone : OngoingReopening → ℕ → ℕ → Bool
has_gone x s v =
    (may_have_served x s v && ((standing_of x s v).claim == 0))
    || ((may_have_served_any x v && has_no_slots x v) || may_be_first x s v)

-- ---- counting

-- the server has answered that it has a whole copy of the shard: of one that is not whole neither view nor position is
-- told
abbrev pub tells_whole : OngoingReopening → ℕ → ℕ → Bool
tells_whole x s v =
    (is_some ((net_reopening x).told (Server v)) && not ((net_reopening x).lost v))
    && (has_whole x s v && (nat_lt 0 (told_copies x s v).view || nat_lt 0 (told_copies x s v).position))

-- the server is recorded with something of the shard, and tells no whole copy
abbrev pub is_gone_member : OngoingReopening → ℕ → ℕ → Bool
is_gone_member x s v = not (is_absent ((recorded_place x).cells s v)) && not (tells_whole x s v)

-- how many there are
abbrev pub gone_members : OngoingReopening → ℕ → ℕ
gone_members x s = count_below (net_reopening x).servers (is_gone_member x s)

-- a server that may have served the shard is gone, but has answered: since others told, they may have got writes of it
abbrev pub has_gone_late : OngoingReopening → ℕ → ℕ → Bool
has_gone_late x s v = has_gone x s v && is_some ((net_reopening x).told (Server v))

-- nobody has answered that it has a whole copy
abbrev pub is_untold : OngoingReopening → ℕ → Bool
is_untold x s = is_none (first_below (net_reopening x).servers (tells_whole x s))

-- A write that this many members had when it was acknowledged may be gone with them. One copy is the primary's own.
abbrev pub may_lack_copies : OngoingReopening → ℕ → ℕ → Bool
may_lack_copies x copies s =
    (nat_lt copies 2 || nat_le copies (gone_members x s)) || (is_untold x s || is_some (first_below (net_reopening x).servers (has_gone_late x s)))

-- ---- names

-- Acknowledged writes of the shard may be lost: no primary is left, a server that may have served it is gone, and as
-- many copies as each write surely had may be.
abbrev pub may_lack_writes : OngoingReopening → ℕ → ℕ → Bool
may_lack_writes x copies s =
    (is_none (first_below (net_reopening x).servers (is_primary_still x s)) && is_some (first_below (net_reopening x).servers (has_gone x s)))
    && may_lack_copies x copies s

-- the server has, had, or may have had something of the shard
abbrev pub had_something : OngoingReopening → Documented → ℕ → ℕ → Bool
had_something x d s v =
    (not (is_absent ((recorded_place x).cells s v)) || may_be_first x s v) || (is_some (d s v) || nat_lt 0 (standing_of x s v).claim)

-- no server is left that has all of the shard, and there was one
abbrev pub is_bare : OngoingReopening → Documented → ℕ → Bool
is_bare x d s = is_none (first_below (net_reopening x).servers (has_whole x s)) && is_some (first_below (net_reopening x).servers (had_something x d s))

-- The proposal names the shard as lost: nobody is left who has all of it, and somebody had something; or somebody has,
-- and it may lack acknowledged writes.
abbrev pub is_named_lost : OngoingReopening → Documented → ℕ → ℕ → Bool
is_named_lost x d copies s =
    is_bare x d s || (is_some (first_below (net_reopening x).servers (has_whole x s)) && may_lack_writes x copies s)
