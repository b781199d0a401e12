-- A server's base: what orders it turns away, and how fences, settles, restores and lost memory change it.
use Rattle.std.specs.Prelude.{ℕ, ◌==◌, Bool, true, false, not, ◌&&◌, ◌||◌, nat_lt, Option, Some, None, is_some}
use Rattle.std.specs.Prelude.{option_map, if◌then◌else◌}
use Rattle.sm_agent.specs.declared.base.Base.{Base}
use Rattle.sm_agent.specs.declared.base.Reopening.{Reopening}
use Rattle.sm_agent.specs.declared.base.Settlement.{Settlement}
use Rattle.sm_agent.specs.declared.base.Restoration.{Restoration}
use Rattle.sm_agent.specs.declared.base.Reception.{Reception}
use Rattle.sm_agent.specs.declared.base.Reception.TheVariants.{Taken, Again, Ignored}

-- the server has no slots: it refuses orders and requests
abbrev pub lacks_slots : Base → Bool
lacks_slots base = is_some base.nonce

-- a server that has lost its slots, and asks for them under a nonce
abbrev pub forgotten : ℕ → Base
forgotten nonce = record { journal = 0; number = 0; fenced = false; nonce = Some nonce }

-- the base is the one of this reopening
abbrev pub is_at : Base → Reopening → Bool
is_at base reopening = base.journal == reopening.journal && base.number == reopening.number

-- what a server makes of a fence; one that is Unknown makes a new nonce
abbrev pub fenced : Base → Reopening → ℕ → Reception
fenced base reopening nonce =
    if nat_lt base.number reopening.number
    then Taken (record { journal = reopening.journal; number = reopening.number; fenced = true; nonce = option_map (λ old. nonce) base.nonce })
    else if base.fenced && is_at base reopening then Again
    else Ignored

-- A message is meant for the server as it stands: it names the nonce of one that is Unknown, and none of one that has
-- its slots. A nonce of 0 has yet to be made.
abbrev pub is_meant : Option ℕ → Option ℕ → Bool
is_meant None None = true
is_meant (Some nonce) (Some named) = nonce == named && not (nonce == 0)
is_meant _ _ = false

-- what a server makes of a settle: it is taken once, at the fence that it ends
abbrev pub settled : Base → Settlement → Reception
settled base settlement =
    if not (is_at base settlement.reopening) then Ignored
    else if base.fenced && is_meant base.nonce settlement.nonce then Taken (record base { fenced = false; nonce = None })
    else if base.fenced || lacks_slots base then Ignored
    else Again

-- what a server makes of a restore: it is taken for its nonce alone, and not above the reopening that it names
abbrev pub restored : Base → Restoration → Reception
restored base restoration =
    if is_meant base.nonce (Some restoration.nonce) && not (base.fenced && nat_lt restoration.fence base.number)
    then Taken (record { journal = restoration.journal; number = restoration.number; fenced = false; nonce = None })
    else Ignored

-- A message of the server's journal names a last reopening that the server was not settled at.
abbrev pub is_overtaken : Base → Reopening → Bool
is_overtaken base last =
    base.journal == last.journal && (nat_lt base.number last.number || (base.fenced && base.number == last.number))

-- what a server makes of the last reopening that a message names: one that was overtaken is Unknown from then on
abbrev pub heeded : Base → Reopening → ℕ → Base
heeded base last nonce = if not (lacks_slots base) && is_overtaken base last then forgotten nonce else base
