-- Values that a client's thread captures may go to it.
use mathlib.Core.List.{[], ◌∷◌}
use denote.Exit.{no}
use denote.Param.{param}
use denote.Param.Send.{IsSync, mut_send, shr_send, sendable}
use Rattle.sm_executor.proofs.BoardSent.{board_sync}
use Rattle.sm_executor.proofs.CapturedSent.{captured_send}
use Rattle.sm_executor.proofs.clients.Client.TheSendSync.{the_send as client_send}
use Rattle.sm_executor.proofs.clients.start_asks.Goals as goal

pub spawn-requires-send-F : goal.spawn-requires-send-F
spawn-requires-send-F g c = λ κs b.
    let runtime : IsSync (param 4 g.row.R) = search sendable depth 20 in
    let board = board_sync (param 0 g.row.A) (param 1 g.row.B) (param 2 g.row.C) (param 3 g.row.N) g.N.Naming g.A.Ledger g.B.Ledger g.C.Ledger in
    let client = client_send (param 1 g.row.B) (param 2 g.row.C) (param 3 g.row.N) g.B.Ledger g.C.Ledger g.N.Naming in
    captured_send no _ ((_, mut_send _ _ _ client) ∷ (_, shr_send _ _ _ runtime) ∷ (_, shr_send _ _ _ board) ∷ [])
