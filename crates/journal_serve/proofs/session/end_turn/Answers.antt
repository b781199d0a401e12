use Rattle.std.proofs.Common.{inl, inr, ◌∙◌}
use Rattle.journal_serve.proofs.KnownBytes.{grows_none, grows_same, appends_same, keeps_same}
use Rattle.journal_serve.proofs.session.end_turn.Goals as goal

pub returns-in_err-keep-clause-part : goal.returns-in_err-keep-clause-part
returns-in_err-keep-clause-part g c = grows_none _ _

pub returns-in_err-keep-clause-time : goal.returns-in_err-keep-clause-time
returns-in_err-keep-clause-time g c word batches changed rest each is = c.keep.ensures.time word batches changed rest each (c.as_slice-changed.ensures.value ∙ is)

pub returns-in_err-keep-clause-told : goal.returns-in_err-keep-clause-told
returns-in_err-keep-clause-told g c word batches changed rest each is = inl (keeps_same _)

pub returns-in_err-write_out-clause-part : goal.returns-in_err-write_out-clause-part
returns-in_err-write_out-clause-part g c = grows_same _ _ _ _ c.as_slice-replies.ensures.value c.write_out.ensures.part

pub returns-in_err-write_out-clause-time : goal.returns-in_err-write_out-clause-time
returns-in_err-write_out-clause-time g c word batches changed rest each is = c.keep.ensures.time word batches changed rest each (c.as_slice-changed.ensures.value ∙ is)

pub returns-in_err-write_out-clause-told : goal.returns-in_err-write_out-clause-told
returns-in_err-write_out-clause-told g c word batches changed rest each is = inr (c.in_ok-keep.ensures.kept word batches changed rest each (c.as_slice-changed.ensures.value ∙ is))

pub returns-clause-part : goal.returns-clause-part
returns-clause-part g c = grows_same _ _ _ _ c.as_slice-replies.ensures.value c.write_out.ensures.part

pub returns-clause-whole : goal.returns-clause-whole
returns-clause-whole g c = appends_same _ _ _ _ c.as_slice-replies.ensures.value c.in_ok-write_out.ensures.whole

pub returns-clause-time : goal.returns-clause-time
returns-clause-time g c word batches changed rest each is = c.keep.ensures.time word batches changed rest each (c.as_slice-changed.ensures.value ∙ is)

pub returns-clause-kept : goal.returns-clause-kept
returns-clause-kept g c word batches changed rest each is =
    (c.in_ok-keep.ensures.word word, c.in_ok-keep.ensures.kept word batches changed rest each (c.as_slice-changed.ensures.value ∙ is))

pub returns-clause-told : goal.returns-clause-told
returns-clause-told g c word batches changed rest each is = inr (c.in_ok-keep.ensures.kept word batches changed rest each (c.as_slice-changed.ensures.value ∙ is))
