use Rattle.smpland_reopening_lines.proofs.taken.take_of.Goals as goal

-- The map's owner has the map, whatever its line tells.
pub returns-in-MapOwner : goal.returns-in-MapOwner
returns-in-MapOwner c = rw c.in-MapOwner.is (c.take_map.ensures c.args.told)
