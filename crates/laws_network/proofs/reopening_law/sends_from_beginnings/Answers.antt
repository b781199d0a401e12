-- By the entries of the beginning.
use Rattle.std.proofs.Common.{◌≡◌, refl, sym, ap, ◌∙◌, append_assoc, List, [], ◌∷◌, ◌++◌}
use Rattle.laws_network.specs.Reopening.{Entry, Reopening, entered, sends}
use Rattle.laws_network.specs.ReopeningLaws.{journal_run, journal_sends}
use Rattle.laws_network.proofs.reopening_law.sends_from_beginnings.Goals as goal

from_beginnings : (front back : List Entry) (r : Reopening) → journal_sends (front ++ back) r ≡ journal_sends front r ++ journal_sends back (journal_run front r)
from_beginnings [] back r = refl
from_beginnings (e ∷ es) back r = ap (λ l. sends e (entered e r) ++ l) (from_beginnings es back (entered e r)) ∙ sym (append_assoc (sends e (entered e r)) (journal_sends es (entered e r)) (journal_sends back (journal_run es (entered e r))))

pub returns : goal.returns
returns g = from_beginnings
