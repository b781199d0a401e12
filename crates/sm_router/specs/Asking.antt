-- An ask: the hops that it makes at a desk, and what it is answered. Three things are known of a desk: what a caller
-- may see of a shard, what a request may be answered, and what one that was passed on may be answered, each with the
-- caller before and after. `asked_after` is internal: you need not read it for the public contracts.
use Rattle.std.specs.Prelude.{◌≡◌, ◌≤◌, ◌<◌, ◌⊎◌, ℕ, Option, Some, None, List, [], ◌∷◌, length}
use Rattle.sm_placement.specs.declared.entry.Entry.{Entry}
use Rattle.sm_protocol.specs.Ticket.{Ticket}
use Rattle.sm_machine.specs.declared.answer.Answer.{Answer}
use Rattle.sm_machine.specs.declared.answer.Answer.TheVariants as answer
use Rattle.sm_router.specs.declared.asking.Asked.{Asked}
use Rattle.sm_router.specs.declared.asking.Asked.TheVariants as asked
use Rattle.sm_router.specs.declared.limits.TheConstants.{MOST_HOPS}
use Rattle.sm_router.specs.declared.asking.Next.{Next}
use Rattle.sm_router.specs.declared.asking.Next.TheVariants.{Look, PassOn, End}

-- what an ask does after an answer
abbrev pub after_answer : Answer → Next
after_answer (answer.Executed server) = End (asked.Executed server)
after_answer (answer.Passed ticket) = PassOn ticket
after_answer answer.NotOwner = Look
after_answer answer.Unavailable = End asked.Unavailable
after_answer (answer.LogFull back) = End asked.LogFull
after_answer (answer.Unknown back) = Look

-- what it is answered if it makes no further hop
abbrev pub asked_after : Next → Asked
asked_after Look = asked.TooManyHops
asked_after (PassOn ticket) = asked.TooManyHops
asked_after (End said) = said

-- A look at the map saw this entry.
pub record HasLooked {C : Type 0} (looked : C → ℕ → Entry → C → Type 0) (shard : ℕ) (old : C) (server : Option ℕ) (new : C) : Type 0 where
  pub entry : Entry
  pub look : looked old shard entry new
  pub listed : entry.server ≡ server

-- A look saw this server, to which the request was sent.
pub record IsSent {C : Type 0} (looked : C → ℕ → Entry → C → Type 0) (arrived : C → ℕ → ℕ → Answer → C → Type 0) (shard : ℕ) (old : C) (said : Answer) (new : C) : Type 0 where
  pub server : ℕ
  pub seen : C
  pub look : HasLooked looked shard old (Some server) seen
  pub arrive : arrived seen shard server said new

-- a hop: its answer, and the caller then
pub record Hop (C : Type 0) : Type 0 where
  pub said : Answer
  pub caller : C

-- the hop is the one that is to be made
abbrev pub IsHop : {C : Type 0} → (C → ℕ → Entry → C → Type 0) → (C → ℕ → ℕ → Answer → C → Type 0)
    → (C → Ticket → Answer → C → Type 0) → ℕ → Next → C → Hop C → Type 0
IsHop looked arrived passed_on shard Look old hop = IsSent looked arrived shard old hop.said hop.caller
IsHop looked arrived passed_on shard (PassOn ticket) old hop = passed_on old ticket hop.said hop.caller
IsHop looked arrived passed_on shard (End said) old hop = ⊥

-- no further hop is made: none is to be made, no server is listed, or there were enough
abbrev pub IsEnd : {C : Type 0} → (C → ℕ → Entry → C → Type 0) → ℕ → Next → C → Asked → C → Type 0
IsEnd looked shard Look old said new = ((said ≡ asked.NotListed) × HasLooked looked shard old None new)
    ⊎ ((said ≡ asked.TooManyHops) × (new ≡ old))
IsEnd looked shard (PassOn ticket) old said new = (said ≡ asked.TooManyHops) × (new ≡ old)
IsEnd looked shard (End end) old said new = (said ≡ end) × (new ≡ old)

-- from here these hops are made, each as the answer before it says, and then it ends so
abbrev pub LeadsTo : {C : Type 0} → (C → ℕ → Entry → C → Type 0) → (C → ℕ → ℕ → Answer → C → Type 0)
    → (C → Ticket → Answer → C → Type 0) → ℕ → Next → C → List (Hop C) → Asked → C → Type 0
LeadsTo looked arrived passed_on shard next old [] said new = IsEnd looked shard next old said new
LeadsTo looked arrived passed_on shard next old (hop ∷ hops) said new =
    IsHop looked arrived passed_on shard next old hop
    × LeadsTo looked arrived passed_on shard (after_answer hop.said) hop.caller hops said new

-- An ask for a shard: it begins with a look and makes at most MOST_HOPS hops. TooManyHops comes only after that many,
-- and NotListed, which a look finds, after fewer.
pub record HasAsked {C : Type 0} (looked : C → ℕ → Entry → C → Type 0) (arrived : C → ℕ → ℕ → Answer → C → Type 0) (passed_on : C → Ticket → Answer → C → Type 0) (shard : ℕ) (old : C) (said : Asked) (new : C) : Type 0 where
  pub hops : List (Hop C)
  pub few : length hops ≤ MOST_HOPS
  pub made : LeadsTo looked arrived passed_on shard Look old hops said new
  pub all : said ≡ asked.TooManyHops → length hops ≡ MOST_HOPS
  pub none : said ≡ asked.NotListed → length hops < MOST_HOPS
