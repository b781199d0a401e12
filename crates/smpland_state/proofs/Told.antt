-- Replies to a server that has lost all it had.
use Rattle.std.proofs.Common.{◌≡◌, ◌==◌, ◌++◌, ◌∷◌, [], ℕ, Bool, true, false, List, Option, Some, None, Result, Ok, Err, IfSome, OnOk, codes, option_map, subst}
use Rattle.std.specs.Prelude.{if◌then◌else◌}
use Rattle.json.specs.Token.{Token, key}
use Rattle.sm_driver.specs.Driver.{DriverModel}
use Rattle.sm_driver.specs.Restores.{RestoreModel}
use Rattle.smpland_lines.proofs.Written.{next}
use Rattle.smpland_state.specs.Restores.{restore_object, restore_told}
use Rattle.smpland_state.specs.Told.{ToldModel}
use Rattle.smpland_state.specs.declared.journal_state.JournalState.{JournalState}

-- what is kept is told behind its name
pub told_kept : {A E : Type 0} (r : Result A E) (d : DriverModel) (v : ℕ) (kept : Option RestoreModel) (restore : RestoreModel) (before mid after : List Token) →
    Some restore ≡ kept → mid ≡ before ++ key (codes "restore") ∷ [] → OnOk r (after ≡ mid ++ restore_object d v restore) →
    OnOk r (IfSome kept (λ told. after ≡ before ++ key (codes "restore") ∷ restore_object d v told))
told_kept (Ok x) d v kept restore before mid after is e told =
    subst (λ (k : Option RestoreModel). IfSome k (λ told. after ≡ before ++ key (codes "restore") ∷ restore_object d v told)) is (next before _ _ e told)
told_kept (Err x) d v kept restore before mid after is e told = tt

-- what holds of a text that is told holds of it if it is told
if_told : (b : Bool) (ts : List Token) (P : List Token → Type 0) → P ts → IfSome (if b then Some ts else None) P
if_told true ts P h = h
if_told false ts P h = tt

-- what is kept is told again, if it was told under this nonce
pub again_kept : {A E : Type 0} (r : Result A E) (o : JournalState) (v nonce : ℕ) (kept : Option RestoreModel) (restore : RestoreModel) (before mid after : List Token) →
    Some restore ≡ kept → mid ≡ before ++ key (codes "restore") ∷ [] → OnOk r (after ≡ mid ++ restore_object o.driver v restore) →
    OnOk r (IfSome (restore_told o v nonce kept) (λ told. after ≡ before ++ key (codes "restore") ∷ told))
again_kept (Ok x) o v nonce kept restore before mid after is e told =
    subst (λ (k : Option RestoreModel). IfSome (restore_told o v nonce k) (λ told. after ≡ before ++ key (codes "restore") ∷ told)) is
    (if_told (restore.nonce == nonce) (restore_object o.driver v restore) (λ told. after ≡ before ++ key (codes "restore") ∷ told) (next before _ _ e told))
again_kept (Err x) o v nonce kept restore before mid after is e told = tt

-- without that, what was told in an earlier epoch
pub again_before : {A E : Type 0} (r : Result A E) (found : Option ToldModel) (told : ToldModel) (before mid after : List Token) →
    Some told ≡ found → mid ≡ before ++ key (codes "restore") ∷ [] → OnOk r (after ≡ mid ++ told.restore) →
    OnOk r (IfSome (option_map (λ (t : ToldModel). t.restore) found) (λ text. after ≡ before ++ key (codes "restore") ∷ text))
again_before (Ok x) found told before mid after is e tells =
    subst (λ (f : Option ToldModel). IfSome (option_map (λ (t : ToldModel). t.restore) f) (λ text. after ≡ before ++ key (codes "restore") ∷ text)) is
    (next before _ _ e tells)
again_before (Err x) found told before mid after is e tells = tt
