-- Why a pool gives no grant.
use Rattle.std.specs.Prelude.{Option, Some, None}
use Rattle.sm_reservation.specs.declared.right.Short.{Short as Key_short}
use Rattle.sm_reservation.specs.declared.pool.TakeFault.{TakeFault}
use Rattle.sm_reservation.specs.declared.pool.TakeFault.TheVariants.{NoMemory, Short}

-- the key of which there was too little: None if memory was short
abbrev pub short_of : TakeFault → Option Key_short
short_of NoMemory = None
short_of (Short s) = Some s
