-- What happens to the data of one shard: writes, copies, losses, replicas that come and go, other primaries. What a
-- server has is what is durable there.
use Rattle.std.specs.Prelude.{◌≡◌, ◌≢◌, ◌<◌, ◌≤◌, ◌⊎◌, ◌+◌, ◌==◌, ◌&&◌, nat_lt, ℕ, zero, suc, Bool, true, false, not}
use Rattle.std.specs.Prelude.{List, [], ◌∷◌, ◌++◌, Option, Some, None, is_some, length, slice_get, if◌then◌else◌}
use Rattle.sm_placement.specs.Sums.{put, count_below}
use Rattle.sm_copies.specs.declared.order.ToldCopy.{ToldCopy}
use Rattle.sm_copies.specs.Order.{IsAtLeast}
use Rattle.sm_copies.specs.Views.{Resumes}
use Rattle.sm_copies.specs.Counting.{HaveEnough, IsAcknowledged}
use Rattle.sm_copies.specs.Lists.{ListEntry, begins, beginning, told_of, view_of, views_of}

-- What a server has told of its copy.
pub record Word : Type 0 where
  pub server : ℕ
  pub copy : ToldCopy

-- what stands for a copy of which nothing was heard
abbrev pub NOTHING_HEARD : ToldCopy
NOTHING_HEARD = record { view = 0; position = 0 }

-- A shard's data. A copy is there only if it is whole: a beginning of the shard's list.
pub record Shard : Type 0 where
  -- how many servers there are
  pub servers : ℕ
  -- the whole copy of each
  pub copies : ℕ → Option (List ListEntry)
  -- who is a replica, and who of them has leave to go
  pub replicas : ℕ → Bool
  pub leaving : ℕ → Bool
  -- whom the primary counts once it has heard of them: all replicas but those to which it gave leave itself
  pub known : ℕ → Bool
  -- who is primary, or was the last one
  pub primary : ℕ
  -- the view of the primary, what it has heard of the copy of each server, and how many copies it asks for
  pub view : ℕ
  pub heard : ℕ → ToldCopy
  pub needed : ℕ
  -- all that was ever told; it may be heard late, again, or never
  pub words : List Word
  -- the beginning of the list that is acknowledged
  pub acknowledged : List ListEntry
  -- the number of the order by which a primary ceased to be one last; and of that by which each server did so,
  -- as long as it has kept its copy since: 0 for none
  pub ended : ℕ
  pub former : ℕ → ℕ
  -- the list of each view as its primary had it; nothing that happens depends on these
  pub lists : ℕ → List ListEntry

-- A choice of another primary by a reopening: who it is, its view, and who are replicas from then on; whose copies were
-- told; how many replicas are asked for; and whether the shard is named as lost.
pub record Choice : Type 0 where
  pub successor : ℕ
  pub view : ℕ
  pub replicas : ℕ → Bool
  pub answered : ℕ → Bool
  pub needed : ℕ
  pub named : Bool

-- Something that happens.
pub data Event : Type 0 where
  -- The primary executes a write.
  Executes : (write : ℕ) → Event
  -- A server has another copy of all that the primary has, made beside the one that it had, if any.
  Copies : (server : ℕ) → Event
  -- A server's copy goes on behind the primary, up to this beginning of its list.
  Follows : (server : ℕ) (list : List ListEntry) → Event
  -- A server tells what its copy is; the primary hears one of all words.
  Tells : (server : ℕ) → Event
  Hears : (which : ℕ) → Event
  -- The primary acknowledges this beginning of its list.
  Acknowledges : (list : List ListEntry) → Event
  -- A server becomes a replica.
  Joins : (server : ℕ) → Event
  -- A replica gets leave of the primary to go; goes, and deletes its copy; or stays.
  Leave : (server : ℕ) → Event
  Goes : (server : ℕ) → Event
  Stays : (server : ℕ) → Event
  -- A server loses its copy.
  Loses : (server : ℕ) → Event
  -- The primary hands the shard to another server, which has all.
  Hands : (server : ℕ) → Event
  -- The primary starts again, in a view of its own.
  Restarts : (view : ℕ) → Event
  -- The primary asks for another number of replicas.
  Raises : (needed : ℕ) → Event
  Lowers : (needed : ℕ) → Event
  -- A reopening takes these replicas away, and leaves the primary.
  Removes : (gone : ℕ → Bool) (needed : ℕ) → Event
  -- A replica becomes primary by an order, with a view of its own; these have told it their copies.
  Changes : (server view : ℕ) (answered : ℕ → Bool) → Event
  -- A reopening chooses another primary.
  Chooses : (choice : Choice) → Event
  -- The primary ceases to be one, by an order with this number.
  Ends : (number : ℕ) → Event
  -- A replica becomes primary by an order, with a view of its own; the former primary has told it its copy.
  Succeeds : (server view former : ℕ) → Event
  -- A replica without a primary gets leave: each of the others has told that it has all its writes.
  Releases : (server : ℕ) (others : ℕ → Bool) → Event
  -- Without a primary a server has another copy of all that some server has, made beside the one that it had, if any.
  Takes : (server source : ℕ) → Event

-- The shard has a primary: its view began after the last one ended.
abbrev pub HasPrimary : Shard → Type 0
HasPrimary w = w.ended ≤ w.view

-- The shard has none since the last one ended.
abbrev pub HasNoPrimary : Shard → Type 0
HasNoPrimary w = w.view < w.ended

-- A number is later than all that began a view or ended a primary.
abbrev pub IsLater : Shard → ℕ → Type 0
IsLater w number = (w.view < number) × (w.ended < number)

-- how many replicas that do not leave pass a test
abbrev pub counted : Shard → (ℕ → Bool) → ℕ
counted w test = count_below w.servers (λ s. w.replicas s && (not (w.leaving s) && test s))

-- whether a server is a replica that does not leave
abbrev pub is_counted : Shard → ℕ → Bool
is_counted w s = w.replicas s && not (w.leaving s)

-- what the primary has heard of whom it counts below a number, but for itself
abbrev pub told_below : Shard → ℕ → List ToldCopy
told_below w zero = []
told_below w (suc n) = if w.known n && not (n == w.primary) then w.heard n ∷ told_below w n else told_below w n

-- what it has heard of all of them
abbrev pub told : Shard → List ToldCopy
told w = told_below w w.servers

-- How many copies a primary asks for, which counts its own in any case: one more, if it leaves or is no replica.
abbrev pub asked_copies : Shard → ℕ → ℕ
asked_copies w needed = if nat_lt w.primary w.servers && is_counted w w.primary then needed else suc needed

-- So many copies have the writes up to a position, by what the primary has heard.
abbrev pub HasHeardEnough : Shard → ℕ → ℕ → Type 0
HasHeardEnough w needed position = (source : List ListEntry) × (w.copies w.primary ≡ Some source)
    × HaveEnough (asked_copies w needed) (told_of source) (told w) position × HasPrimary w

-- whether a whole copy lacks something of a list
abbrev pub lacks : List ListEntry → Option (List ListEntry) → Bool
lacks list None = false
lacks list (Some copy) = not (begins list copy)

-- the replicas of which no whole copy is told
abbrev pub gone : Shard → (ℕ → Bool) → ℕ
gone w answered = count_below w.servers (λ s. w.replicas s && not (answered s && is_some (w.copies s)))

-- whether a server's whole copy is this list
abbrev pub is_copy : List ListEntry → Option (List ListEntry) → Bool
is_copy list None = false
is_copy list (Some copy) = (length list == length copy) && begins list copy

-- Others than a server, all of them replicas that do not leave, have no less than a list.
abbrev pub HaveNoLess : Shard → (ℕ → Bool) → ℕ → List ListEntry → Type 0
HaveNoLess w others s list = (t : ℕ) → others t ≡ true → (t ≢ s) × (is_counted w t ≡ true)
    × (copy : List ListEntry) × (w.copies t ≡ Some copy) × IsAtLeast (told_of copy) (told_of list)

-- A server may have a list in place of its copy without a primary: the copy is no greater, or the server has none and
-- is no replica yet.
abbrev pub MayTake : Shard → ℕ → List ListEntry → Type 0
MayTake w s list = ((copy : List ListEntry) × (w.copies s ≡ Some copy) × IsAtLeast (told_of list) (told_of copy))
    ⊎ ((w.copies s ≡ None) × (w.replicas s ≡ false))

-- no copy that is told is greater
abbrev pub IsGreatest : Shard → (ℕ → Bool) → List ListEntry → Type 0
IsGreatest w answered successor = (s : ℕ) (copy : List ListEntry)
    → s < w.servers → answered s ≡ true → w.copies s ≡ Some copy → IsAtLeast (told_of successor) (told_of copy)

-- The rules of a choice: the successor's copy is told, and is the greatest; its view is a new one; as many replicas as
-- are asked for have its copy; and unless the shard is named fewer than were asked for are gone.
pub record IsChosen (w : Shard) (choice : Choice) (copy : List ListEntry) : Type 0 where
  pub copy_is : w.copies choice.successor ≡ Some copy
  pub greatest : IsGreatest w choice.answered copy
  pub later : IsLater w choice.view
  pub needed : choice.needed ≤ count_below w.servers (λ s. choice.replicas s && is_copy copy (w.copies s))
  pub named : choice.named ≡ false → gone w choice.answered < w.needed

-- The rules: what may happen.
abbrev pub MayHappen : Shard → Event → Type 0
MayHappen w (Executes write) = (is_some (w.copies w.primary) ≡ true) × HasPrimary w
MayHappen w (Copies s) = (is_some (w.copies w.primary) ≡ true) × HasPrimary w
MayHappen w (Follows s list) = (copy source : List ListEntry) × (w.copies s ≡ Some copy)
    × (w.copies w.primary ≡ Some source)
    × Resumes (told_of copy) (views_of source) (length source)
    × (begins list source ≡ true) × (length copy ≤ length list) × HasPrimary w
MayHappen w (Tells s) = (is_some (w.copies s) ≡ true) × (w.leaving s ≡ false)
MayHappen w (Hears which) = (word : Word) × (slice_get w.words which ≡ Some word)
MayHappen w (Acknowledges list) = (source : List ListEntry) × (position : ℕ) × (w.copies w.primary ≡ Some source)
    × (begins list source ≡ true)
    × (view_of list ≡ w.view) × (length w.acknowledged ≤ length list)
    × IsAcknowledged (asked_copies w w.needed) (told_of source) (told w) position × (length list ≤ position)
    × HasPrimary w
MayHappen w (Joins s) = Unit
MayHappen w (Leave s) = HasHeardEnough (record w { leaving = put w.leaving s true; known = put w.known s false })
    w.needed (length w.acknowledged)
MayHappen w (Goes s) = w.leaving s ≡ true
MayHappen w (Stays s) = Unit
MayHappen w (Loses s) = Unit
MayHappen w (Hands s) = (copy : List ListEntry) × (w.copies w.primary ≡ Some copy) × (w.copies s ≡ Some copy)
    × HasPrimary w
MayHappen w (Restarts view) = (is_some (w.copies w.primary) ≡ true) × IsLater w view × HasPrimary w
MayHappen w (Raises needed) = HasHeardEnough w needed (length w.acknowledged)
MayHappen w (Lowers needed) = needed ≤ w.needed
MayHappen w (Removes gone needed) = needed + count_below w.servers (λ s. w.replicas s && gone s) ≤ w.needed
MayHappen w (Changes s view answered) = (copy : List ListEntry) × (w.copies s ≡ Some copy) × IsGreatest w answered copy
    × IsLater w view × (gone w answered < w.needed)
MayHappen w (Chooses choice) = (copy : List ListEntry) × IsChosen w choice copy
MayHappen w (Ends number) = (is_some (w.copies w.primary) ≡ true) × IsLater w number × HasPrimary w
MayHappen w (Succeeds s view former) = (copy kept : List ListEntry) × (w.copies s ≡ Some copy)
    × (w.copies former ≡ Some kept)
    × (w.former former ≡ w.ended) × IsAtLeast (told_of copy) (told_of kept) × IsLater w view × HasNoPrimary w
MayHappen w (Releases s others) = (copy : List ListEntry) × (w.copies s ≡ Some copy) × HaveNoLess w others s copy
    × (w.needed ≤ count_below w.servers others) × (view_of copy < w.ended)
MayHappen w (Takes s source) =
    (list : List ListEntry) × (w.copies source ≡ Some list) × MayTake w s list × HasNoPrimary w

-- the list of a whole copy, empty without one
abbrev pub list_of : Option (List ListEntry) → List ListEntry
list_of None = []
list_of (Some copy) = copy

-- a server has this copy, which is the list of a view
abbrev pub with_list : Shard → ℕ → ℕ → List ListEntry → Shard
with_list w s view list = record w { copies = put w.copies s (Some list); lists = put w.lists view list }

-- a server begins a view as its primary: nobody has told it anything yet
abbrev pub with_view : Shard → ℕ → ℕ → Shard
with_view w s view = record (with_list w s view (list_of (w.copies s) ++ beginning view ∷ [])) { primary = s; view = view; heard = λ _. NOTHING_HEARD }

-- the primary has heard a word
abbrev pub with_heard : Shard → Option Word → Shard
with_heard w None = w
with_heard w (Some word) = record w { heard = put w.heard word.server word.copy }

-- The shard after something has happened.
abbrev pub left_by : Shard → Event → Shard
left_by w (Executes write) = with_list w w.primary w.view (list_of (w.copies w.primary) ++ record { view = w.view; write = write } ∷ [])
left_by w (Copies s) = record w { copies = put w.copies s (w.copies w.primary) }
left_by w (Follows s list) = record w { copies = put w.copies s (Some list) }
left_by w (Tells s) = record w { words = record { server = s; copy = told_of (list_of (w.copies s)) } ∷ w.words }
left_by w (Hears which) = with_heard w (slice_get w.words which)
left_by w (Acknowledges list) = record w { acknowledged = list }
left_by w (Joins s) = record w {
  replicas = put w.replicas s true;
  leaving = put w.leaving s false;
  known = put w.known s true;
  heard = put w.heard s NOTHING_HEARD;
}
left_by w (Leave s) = record w { leaving = put w.leaving s true; known = put w.known s false }
left_by w (Goes s) = record w {
  replicas = put w.replicas s false;
  copies = put w.copies s None;
  former = put w.former s 0;
}
left_by w (Stays s) = record w {
  leaving = put w.leaving s false;
  known = put w.known s (w.replicas s);
  heard = put w.heard s NOTHING_HEARD;
}
left_by w (Loses s) = record w { copies = put w.copies s None; former = put w.former s 0 }
left_by w (Hands s) = record w { primary = s; heard = λ _. NOTHING_HEARD }
left_by w (Restarts view) = with_view w w.primary view
left_by w (Raises needed) = record w { needed = needed }
left_by w (Lowers needed) = record w { needed = needed }
left_by w (Removes gone needed) = record w {
  replicas = λ s. w.replicas s && not (gone s);
  known = λ s. w.known s && not (gone s);
  needed = needed;
}
left_by w (Changes s view answered) = with_view w s view
left_by w (Chooses choice) = record (with_view w choice.successor choice.view) {
  replicas = choice.replicas;
  leaving = λ _. false;
  known = choice.replicas;
  needed = choice.needed;
  acknowledged = if choice.named then [] else w.acknowledged;
}
left_by w (Ends number) = record w { ended = number; former = put w.former w.primary number }
left_by w (Succeeds s view former) = with_view w s view
left_by w (Releases s others) = record w { leaving = put w.leaving s true }
left_by w (Takes s source) = record w { copies = put w.copies s (w.copies source) }

-- a whole schedule
abbrev pub all_left : List Event → Shard → Shard
all_left [] w = w
all_left (e ∷ es) w = all_left es (left_by w e)

-- each event is allowed when it happens
abbrev pub MayHappenInTurn : Shard → List Event → Type 0
MayHappenInTurn w [] = Unit
MayHappenInTurn w (e ∷ es) = MayHappen w e × MayHappenInTurn (left_by w e) es

-- whether an event names the shard as lost
abbrev pub names : Event → Bool
names (Chooses choice) = choice.named
names _ = false

-- A new shard: its primary has nothing, and begins the view 0.
abbrev pub new_shard : ℕ → (ℕ → Bool) → ℕ → ℕ → Shard
new_shard servers replicas primary needed =
    record {
      servers = servers;
      copies = put (λ _. None) primary (Some (beginning 0 ∷ []));
      replicas = replicas;
      leaving = λ _. false;
      known = replicas;
      primary = primary;
      view = 0;
      heard = λ _. NOTHING_HEARD;
      needed = needed;
      words = [];
      acknowledged = [];
      ended = 0;
      former = λ _. 0;
      lists = put (λ _. []) 0 (beginning 0 ∷ []);
    }

-- Events that are allowed lead to the shard, from a new one with as many replicas as are asked for.
pub record IsShardReached (w : Shard) : Type 0 where
  pub servers : ℕ
  pub replicas : ℕ → Bool
  pub primary : ℕ
  pub needed : ℕ
  pub events : List Event
  pub enough : needed ≤ count_below servers replicas
  pub allowed : MayHappenInTurn (new_shard servers replicas primary needed) events
  pub is : all_left events (new_shard servers replicas primary needed) ≡ w
