-- Refusals of a name, or of a name and a number: what is told of their fields.
use Rattle.std.proofs.Common.{◌≡◌, ◌∙◌, ◌++◌, [], ℕ, List, None, Result, Ok, Err, OnOk, ap, decimal, sym}
use Rattle.std.specs.Prelude.{codes}
use Rattle.std.proofs.lemmas.List.{append-nil, append_assoc}
use Rattle.json.specs.Token.{Token}
use Rattle.sm_placement.specs.Setup.{Setup}
use Rattle.sm_driver.specs.Copies.{shard_want}
use Rattle.smpland_lines.specs.Members.{number_member, server_text, shard_text, text_member}
use Rattle.smpland_lines.specs.Refusals.{RefusedLine, refused_member}
use Rattle.smpland_session.specs.Checks.{unknown_refusal}
use Rattle.smpland_session.specs.Outcomes.{above_want}

-- a refusal of a name under a label, whose words end so
abbrev pub refusal_of_name : List ℕ → List ℕ → List ℕ → List ℕ → RefusedLine
refusal_of_name kind label name words = record {
  kind = kind;
  number = None;
  fields = text_member label name;
  text = codes "refused: " ++ kind ++ words;
}

-- the words of a name under a label
abbrev pub name_words : List ℕ → List ℕ → List ℕ
name_words label name = codes " " ++ label ++ codes " " ++ name

-- no more words stand behind them
pub told_of_name : {A E : Type 0} (r : Result A E) (kind label name : List ℕ) (before after : List Token) →
    OnOk r (after ≡ before ++ refused_member (refusal_of_name kind label name (name_words label name ++ []))) →
    OnOk r (after ≡ before ++ refused_member (refusal_of_name kind label name (name_words label name)))
told_of_name (Err _) kind label name before after told = tt
told_of_name (Ok _) kind label name before after told =
    told ∙ ap (λ words. before ++ refused_member (refusal_of_name kind label name words)) (append-nil (name_words label name))

-- they are the name of a server that is not known
pub told_unknown : {A E : Type 0} (r : Result A E) (name : List ℕ) (setup : Setup) (v : ℕ) (before after : List Token) → name ≡ server_text setup v →
    OnOk r (after ≡ before ++ refused_member (refusal_of_name (codes "Unknown") (codes "server") name (name_words (codes "server") name ++ []))) →
    OnOk r (after ≡ before ++ refused_member (unknown_refusal setup v))
told_unknown (Err _) name setup v before after named told = tt
told_unknown (Ok _) name setup v before after named told =
    told ∙ ap (λ words. before ++ refused_member (refusal_of_name (codes "Unknown") (codes "server") name words)) (append-nil (name_words (codes "server") name))
    ∙ ap (λ (n : List ℕ). before ++ refused_member (refusal_of_name (codes "Unknown") (codes "server") n (name_words (codes "server") n))) named

-- a refusal of copies that a shard with this name does not want, whose words end so
abbrev pub refusal_of_copies : List ℕ → ℕ → List ℕ → RefusedLine
refusal_of_copies name want words = record {
  kind = codes "AboveWant";
  number = None;
  fields = text_member (codes "shard") name ++ number_member (codes "want") want;
  text = codes "refused: AboveWant shard " ++ words;
}

-- they are its name and what it wants, and no more words stand behind them
pub told_above_want : {A E : Type 0} (r : Result A E) (name : List ℕ) (n : ℕ) (setup : Setup) (s : ℕ) (before after : List Token) →
    name ≡ shard_text setup s → n ≡ shard_want setup s →
    OnOk r (after ≡ before ++ refused_member (refusal_of_copies name n (name ++ (codes " want " ++ (decimal n ++ []))))) →
    OnOk r (after ≡ before ++ refused_member (above_want setup s))
told_above_want (Err _) name n setup s before after named is told = tt
told_above_want (Ok _) name n setup s before after named is told =
    told ∙ ap (λ (words : List ℕ). before ++ refused_member (refusal_of_copies name n (name ++ (codes " want " ++ words)))) (append-nil (decimal n))
    ∙ ap (λ (words : List ℕ). before ++ refused_member (refusal_of_copies name n words)) (sym (append_assoc name (codes " want ") (decimal n)))
    ∙ ap (λ (x : List ℕ). before ++ refused_member (refusal_of_copies x n (x ++ codes " want " ++ decimal n))) named
    ∙ ap (λ (k : ℕ). before ++ refused_member (refusal_of_copies (shard_text setup s) k (shard_text setup s ++ codes " want " ++ decimal k))) is
