-- Which refusal comes first, once none comes from one move alone.
use Rattle.std.proofs.Common.{◌≡◌, ◌<◌, ◌≤◌, ◌∙◌, ℕ, ltb, Option, Some, None, List, length, sym, ap, refl}
use Rattle.std.specs.Prelude.{option_map}
use Rattle.std.specs.Option.{option_or}
use Rattle.std.proofs.lemmas.Bool.{lt-ltb, le-ltb, or_right, or_from}
use Rattle.sm_plan_code.specs.declared.limits.TheConstants.{MOST_MOVES, MOST_SIGNALS}
use Rattle.sm_plan_code.specs.declared.moves.Move.{Move}
use Rattle.sm_planner.specs.declared.refusal.NoPlan.{NoPlan}
use Rattle.sm_planner.specs.declared.refusal.NoPlan.TheVariants.{NoRoom, Spread, TooMany}
use Rattle.sm_planner.specs.Basis.{Basis, move_at}
use Rattle.sm_planner.specs.Placing.{first_left}
use Rattle.sm_planner.specs.Spread.{first_too_close}
use Rattle.sm_planner.specs.Payment.{signals_of}
use Rattle.sm_planner.specs.Refusal.{first_refused, no_room, no_spread, too_many, in_placed_order, refusal}

module _ (b : Basis) (moves : List Move) (placed : List ℕ) (open_one : first_refused b moves ≡ None) where
  -- where a move is left, the reason is the room of the server to which the first such one goes
  pub refused_room : (i : ℕ) (server : ℕ) → first_left moves placed ≡ Some i → server ≡ (move_at moves i).to → refusal b moves placed ≡ Some (NoRoom server)
  refused_room i server e s =
      ap (λ (x : Option NoPlan). option_or x (option_or (no_room moves placed) (option_or (no_spread b moves) (too_many b moves placed)))) open_one
      ∙ ap (λ (x : Option ℕ). option_or (option_map (λ i. NoRoom (move_at moves i).to) x) (option_or (no_spread b moves) (too_many b moves placed))) e
      ∙ ap (λ (x : ℕ). Some (NoRoom x)) (sym s)

  pub refused_later : first_left moves placed ≡ None → refusal b moves placed ≡ option_or (no_spread b moves) (too_many b moves placed)
  refused_later e =
      ap (λ (x : Option NoPlan). option_or x (option_or (no_room moves placed) (option_or (no_spread b moves) (too_many b moves placed)))) open_one
      ∙ ap (λ (x : Option ℕ). option_or (option_map (λ i. NoRoom (move_at moves i).to) x) (option_or (no_spread b moves) (too_many b moves placed))) e

  refused_last : first_left moves placed ≡ None → first_too_close b moves ≡ None → refusal b moves placed ≡ too_many b moves placed
  refused_last e s = refused_later e ∙ ap (λ (x : Option ℕ). option_or (option_map Spread x) (too_many b moves placed)) s

  -- where no move is left and no spread is broken, more signals than a plan has are too many
  pub refused_signals : first_left moves placed ≡ None → first_too_close b moves ≡ None → MOST_SIGNALS < length (signals_of b (in_placed_order moves placed)) → refusal b moves placed ≡ Some TooMany
  refused_signals e s l = refused_last e s ∙ rw (or_right (ltb MOST_MOVES (length moves)) (ltb MOST_SIGNALS (length (signals_of b (in_placed_order moves placed)))) (lt-ltb MOST_SIGNALS (length (signals_of b (in_placed_order moves placed))) l)) refl

  -- where no move is left, no spread is broken and moves and signals are few enough, there is no reason
  pub refused_not : first_left moves placed ≡ None → first_too_close b moves ≡ None → length moves ≤ MOST_MOVES → length (signals_of b (in_placed_order moves placed)) ≤ MOST_SIGNALS → refusal b moves placed ≡ None
  refused_not e s l m = refused_last e s ∙ rw (or_from (ltb MOST_MOVES (length moves)) (ltb MOST_SIGNALS (length (signals_of b (in_placed_order moves placed)))) (le-ltb MOST_MOVES (length moves) l) (le-ltb MOST_SIGNALS (length (signals_of b (in_placed_order moves placed))) m)) refl
