use Rattle.sm_placement.proofs.SizesLemmas.{room_small, load_small, floor_small}
use Rattle.sm_placement.proofs.laws.sizes_are_small.Goals as goal

pub returns-clause-room : goal.returns-clause-room
returns-clause-room c = room_small

pub returns-clause-load : goal.returns-clause-load
returns-clause-load c = load_small

pub returns-clause-floor : goal.returns-clause-floor
returns-clause-floor c = floor_small
