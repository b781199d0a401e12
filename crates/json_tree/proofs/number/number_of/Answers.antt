use Rattle.std.proofs.Common.{◌≡◌, ℕ, List, [], ◌∷◌, take, drop, get_or, true, false, ◌==◌, nat_eq, refl, sym, ap, ◌∙◌, arith}
use Rattle.std.specs.Cmp.Lexicographic.{pointwise}
use Rattle.fast_float.specs.Text.{scan}
use Rattle.serde_json.specs.Read.{number_of, number_from}
use Rattle.json_tree.proofs.number.number_of.Goals as goal

begins : (s : List ℕ) → pointwise nat_eq (take 1 s) (45 ∷ []) ≡ (get_or s 0 0 == 45)
begins [] = refl
begins (x ∷ s) = grind arith

pub returns-in-Some : goal.returns-in-Some
unfolding number_of
returns-in-Some c =
    let s = c.as_bytes-bytes.result.now in
    let signed : (get_or s 0 0 == 45) ≡ true = sym (begins s) ∙ c.in-Some.ensures.cases.0 in
    let read : number_from true (scan (drop 1 s)) ≡ number_of s = rw signed in
    c.negative.ensures ∙ ap (number_from true) (c.scan.ensures.parts ∙ ap scan c.in-Some.ensures.cases.1) ∙ read ∙ ap number_of c.as_bytes-bytes.ensures.value

pub returns-in-None : goal.returns-in-None
unfolding number_of
returns-in-None c =
    let s = c.as_bytes-bytes.result.now in
    let unsigned : (get_or s 0 0 == 45) ≡ false = sym (begins s) ∙ c.in-None.ensures.cases in
    let read : number_from false (scan s) ≡ number_of s = rw unsigned in
    c.unsigned.ensures ∙ ap (number_from false) c.scan-in-None.ensures.parts ∙ read ∙ ap number_of c.as_bytes-bytes.ensures.value
