-- Replies to `copied`: how many replicas of a shard surely have each acknowledged write.
use Rattle.std.specs.Prelude.{ℕ, List, ◌++◌, codes}
use Rattle.json.specs.Token.{Token}
use Rattle.sm_driver.specs.Copies.{copies_of}
use Rattle.sm_driver.specs.Driver.{DriverModel}
use Rattle.smpland_lines.specs.Members.{number_member, object_member, shard_text, text_member}

-- a shard, and how many of its replicas surely have each acknowledged write
abbrev pub copied_members : DriverModel → ℕ → List Token
copied_members d s = text_member (codes "shard") (shard_text d.machine.placement.setup s)
    ++ number_member (codes "copies") (copies_of d s)

-- the same as a member
abbrev pub copied_member : DriverModel → ℕ → List Token
copied_member d s = object_member (codes "copied") (copied_members d s)
