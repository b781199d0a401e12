-- The words for a fault of a store, and for two faults that are found here. `IsTooLong` and `TakesNoByte` are internal:
-- you need not read them for the public contracts.
use Rattle.std.specs.Prelude.{◌≡◌}
use Rattle.std.specs.IoError.{error_kind}
use Rattle.std.specs.declared.io.ErrorKind.TheVariants.{FileTooLarge, WriteZero}
use Rattle.journal_store.specs.declared.store.StoreFailure.{StoreFailure}
use Rattle.journal_store.specs.declared.store.StoreFailure.TheVariants.{Read}
use Rattle.journal_store.specs.declared.store.StoreFault.{StoreFault}
use Rattle.journal_store.specs.declared.store.StoreFault.TheVariants.{NoMemory, Failed}
use Rattle.journal_serve.specs.declared.fault.RecoverFault.{RecoverFault}
use Rattle.journal_serve.specs.declared.fault.RecoverFault.TheVariants as recover
use Rattle.journal_serve.specs.declared.fault.ServeFault.{ServeFault}
use Rattle.journal_serve.specs.declared.fault.ServeFault.TheVariants as serve

-- by a recovery
abbrev pub recover_fault_of : StoreFault → RecoverFault
recover_fault_of NoMemory = recover.NoMemory
recover_fault_of (Failed failure) = recover.Failed failure

-- by a session
abbrev pub serve_fault_of : StoreFault → ServeFault
serve_fault_of NoMemory = serve.NoMemory
serve_fault_of (Failed failure) = serve.NotKept failure

-- the journal was not read: it is too long
abbrev pub IsTooLong : StoreFailure → Type 0
IsTooLong (Read cause) = error_kind cause ≡ FileTooLarge
IsTooLong _ = ⊥

-- the output was not written: it takes no byte
abbrev pub TakesNoByte : ServeFault → Type 0
TakesNoByte (serve.WriteFailed cause) = error_kind cause ≡ WriteZero
TakesNoByte _ = ⊥
