-- Bases of C, and how messages change one.
use Rattle.std.specs.Prelude.{ℕ, ◌==◌, not, ◌&&◌, Option, Some, None, is_none, unwrap_or, option_map, if◌then◌else◌}
use Rattle.sm_agent.specs.declared.base.Base.{Base}
use Rattle.sm_agent.specs.declared.base.Reopening.{Reopening}
use Rattle.sm_agent.specs.declared.base.Reception.{Reception}
use Rattle.sm_agent.specs.declared.base.Reception.TheVariants.{Taken, Again, Ignored}
use Rattle.sm_agent.specs.Base.{lacks_slots, fenced, heeded}
use Rattle.sm_agent_c.specs.declared.code.TheConstants as code
use Rattle.sm_agent_c.specs.declared.base.RawBase.{RawBase}
use Rattle.sm_agent_c.specs.declared.base.RawReopening.{RawReopening}
use Rattle.sm_agent_c.specs.Code.{is_flag, flag_of}

-- what a base of C stands for, if its flags are in range
abbrev pub base_of : RawBase → Option Base
base_of raw =
    if not (is_flag raw.known) then None
    else if not (is_flag raw.fenced) then None
    else Some (record { journal = raw.journal; number = raw.number; fenced = raw.fenced == 1; nonce = if raw.known == 1 then None else Some raw.nonce })

-- a base as C has it
abbrev pub written_base : Base → RawBase
written_base base = record {
  journal = base.journal;
  number = base.number;
  nonce = unwrap_or base.nonce 0;
  known = flag_of (is_none base.nonce);
  fenced = flag_of base.fenced;
}

-- a reopening
abbrev pub reopening_of : RawReopening → Reopening
reopening_of raw = record { journal = raw.journal; number = raw.number }

-- what becomes of a fence at a base whose flags are in range
abbrev pub fence_of : Option Base → Reopening → ℕ → Option Reception
fence_of base reopening nonce = option_map (λ known. fenced known reopening nonce) base

-- the naming of a last reopening is taken if it makes a server Unknown that had its slots
abbrev heed_by : Base → Base → Reception
heed_by base next = if lacks_slots next && not (lacks_slots base) then Taken next else Ignored

-- what becomes of the naming of a last reopening
abbrev pub heed_of : Option Base → Reopening → ℕ → Option Reception
heed_of base last nonce = option_map (λ known. heed_by known (heeded known last nonce)) base

-- the answer to a message
abbrev pub reception_answer : Option Reception → ℕ
reception_answer None = code.BAD
reception_answer (Some (Taken next)) = code.TAKEN
reception_answer (Some Again) = code.AGAIN
reception_answer (Some Ignored) = code.IGNORED

-- the base after a message
abbrev pub received_base : RawBase → Option Reception → RawBase
received_base raw (Some (Taken next)) = written_base next
received_base raw _ = raw
