-- Values that a thread captures may go to it.
use mathlib.Core.List.{[], ◌∷◌}
use denote.Exit.{no}
use denote.Param.{param}
use denote.Param.Send.{IsSend, IsSync, mut_send, shr_send, sendable}
use Rattle.sm_executor.proofs.BoardSent.{board_sync, starter_sync}
use Rattle.sm_executor.proofs.CapturedSent.{captured_send, mutex_sync, option_send}
use Rattle.sm_executor.proofs.runner.Runner.TheSendSync.{the_send as runner_send}
use Rattle.sm_executor.proofs.threads.start_all.Goals as goal

pub spawn-requires-send-F : goal.spawn-requires-send-F
spawn-requires-send-F g c = λ κs b.
    let link : IsSend (param 4 g.row.L) = search sendable depth 20 in
    let runtime : IsSync (param 5 g.row.R) = search sendable depth 20 in
    let gate : IsSync (param 6 g.row.G) = search sendable depth 20 in
    let board = board_sync (param 0 g.row.A) (param 1 g.row.B) (param 2 g.row.C) (param 3 g.row.N) g.N.Naming g.A.Ledger g.B.Ledger g.C.Ledger in
    let runner = runner_send (param 0 g.row.A) g.A.Ledger in
    let own = option_send _ (shr_send _ _ _ (mutex_sync _ link)) in
    captured_send no _ ((_, shr_send _ _ _ runtime) ∷ (_, shr_send _ _ _ board) ∷ (_, shr_send _ _ _ starter_sync) ∷ (_, shr_send _ _ _ gate) ∷ (_, mut_send _ _ _ runner) ∷ (_, own) ∷ [])
