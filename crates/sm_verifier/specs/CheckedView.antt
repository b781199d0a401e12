-- Checked plans in memory: what contracts see of them.
use Rattle.sm_verifier.specs.declared.checked.Checked.TheInside.{Inside}
use Rattle.sm_verifier.specs.Checked.{CheckedModel}

-- a checked plan in memory as contracts see it
abbrev pub checked_of : Inside → CheckedModel
checked_of a = record {
  setup = a.config;
  plan = a.plan;
  order = a.order.items;
  finals = a.finals.items;
  peaks = a.peaks.items;
}
