-- Threads may share a board: what lies behind its lock may go to another thread, and what lies beside it may be shared.
use denote.RattleType.{RattleType}
use denote.Struct.Declared.{shape}
use denote.Param.Send.{IsSend, IsSync, view_send, recorded_send, recorded_sync, struct_send, struct_sync, plain_send, sendable}
use Rattle.std.specs.declared.sync.ledger.Ledger as Ledger
use Rattle.std.proofs.Crossing.{crosses}
use Rattle.std.proofs.sync.ledger.Book.TheSendSync.{the_send as book_send}
use Rattle.std.proofs.sync.ledger.Share.TheSendSync.{the_send as share_send}
use Rattle.sm_map.proofs.map.Publisher.TheSendSync.{the_send as publisher_send}
use Rattle.sm_map.proofs.map.Words.TheSendSync.{the_sync as words_sync}
use Rattle.sm_placement.proofs.config.Config.TheSendSync.{the_sync as config_sync}
use Rattle.sm_executor.specs.declared.names.Naming as Naming
use Rattle.sm_executor.specs.contracts.board.Board as Board
use Rattle.sm_executor.specs.contracts.gate.Starter as Starter
use Rattle.sm_executor.specs.contracts.held.Held as Held
use Rattle.sm_executor.specs.contracts.held.Held.TheInside as Inside
use Rattle.sm_executor.proofs.MachineSent.{machine_send}

-- threads of a run may share what they wait at until all have started
pub starter_sync : IsSync Starter.the_row
starter_sync = search (crosses, sendable) depth 30

module _ (A B C N : RattleType) (n : Naming.Ghosts N.Denot) (a : Ledger.Ghosts A.Denot) (b : Ledger.Ghosts B.Denot) (c : Ledger.Ghosts C.Denot) where
  held_send : IsSend (Held.the_row A B C N a b c n)
  held_send = view_send (Inside.the_row A B C N a b c n) _ _ _ _
      (recorded_send (Inside.the_field A B C N a b c n).row _ _ (Inside.the_type A B C N a b c n).to_one (struct_send (shape (Inside.the_type A B C N a b c n)) (
        machine_send,
        (
          publisher_send,
          (
            search (book_send, sendable) depth 10,
            (
              search (book_send, sendable) depth 10,
              (
                search (book_send, sendable) depth 10,
                (
                  search (share_send, sendable) depth 10,
                  (
                    search (share_send, sendable) depth 10,
                    (
                      search (share_send, sendable) depth 10,
                      (plain_send _ _ _ _ _, (plain_send _ _ _ _ _, (search (crosses, sendable) depth 10, tt))),
                    ),
                  ),
                ),
              ),
            ),
          ),
        ),
      )))

  -- threads may share a board, whatever its names and those of its ledgers are
  pub board_sync : IsSync (Board.the_row A B C N n a b c)
  board_sync = recorded_sync (Board.the_field A B C N n a b c).row (Board.the_type A B C N n a b c).D (Board.the_type A B C N n a b c).to (Board.the_type A B C N n a b c).to_one (struct_sync (shape (Board.the_type A B C N n a b c))
      (search (held_send, crosses, sendable) depth 10, (search (crosses, sendable) depth 20, (words_sync, (config_sync, (search (crosses, sendable) depth 20, tt))))))
