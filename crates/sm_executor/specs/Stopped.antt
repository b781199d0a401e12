-- The runners and ends that come back of a run whose streams have not all finished.
use Rattle.std.specs.Prelude.{ℕ, ◌≡◌, ◌+◌, [], Bool, true, false, List, length}
use Rattle.sm_executor.specs.declared.threads.RunFault.{RunFault}
use Rattle.sm_executor.specs.declared.threads.RunFault.TheVariants.{NoMemory, NoThread, Halted, Spent}
use Rattle.sm_executor.specs.Views.{RunnerModel, EndedModel}

-- the runners that come back
abbrev pub runners_back : {A : Type 0} → RunFault A → List RunnerModel
runners_back (NoMemory runners) = runners.items
runners_back (NoThread runners) = runners.items
runners_back (Halted runners ended) = runners.items
runners_back (Spent runners ended) = runners.items

-- the ends of streams that come back
abbrev pub ends_back : {A : Type 0} → RunFault A → List EndedModel
ends_back (NoMemory runners) = []
ends_back (NoThread runners) = []
ends_back (Halted runners ended) = ended.items
ends_back (Spent runners ended) = ended.items

-- memory ran out
abbrev pub lacks_memory : {A : Type 0} → RunFault A → Bool
lacks_memory (NoMemory runners) = true
lacks_memory _ = false

-- a stream may have stepped before the run ended so
abbrev pub may_have_stepped : {A : Type 0} → RunFault A → Bool
may_have_stepped (Halted runners ended) = true
may_have_stepped (Spent runners ended) = true
may_have_stepped _ = false

-- each of this many runners comes back, or its stream's end does
abbrev pub ComesBack : {A : Type 0} → ℕ → RunFault A → Type 0
ComesBack count back = length (runners_back back) + length (ends_back back) ≡ count
