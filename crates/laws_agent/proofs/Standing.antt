-- A cluster stands for what it is seen as.
use Rattle.std.proofs.Common.{◌≡◌, ℕ, zero, suc, refl, sym, ap, ◌∙◌, subst, Some, List, [], ◌∷◌, ◌++◌}
use Rattle.std.specs.Prelude.{map, slice_get}
use Rattle.sm_server.specs.declared.call.Cell.{Cell}
use Rattle.sm_agent.specs.declared.base.Base.{Base as AgentBase}
use Rattle.laws_network.specs.Words.{Sizes}
use Rattle.laws_network.specs.World.{Entry as MapEntry, World}
use Rattle.laws_network.specs.Fleet.{Fleet, Server as AgentServer}
use Rattle.laws_network.specs.Reopening.{Base, Message, Party, Reopening, Settling, SettlingEvent, settling_run}
use Rattle.laws_network.specs.ReopeningLaws.{AllSettlingFit}
use Rattle.laws_agent.specs.Cluster.{Cluster}
use Rattle.laws_agent.specs.ClusterLaws.{IsBeside, StandsFor, seen}

-- a state by its parts
abbrev pub built : World → (ℕ → ℕ → Cell) → (ℕ → ℕ → ℕ) → (ℕ → MapEntry) → (Party → Base) → (ℕ → Sizes) → ℕ → List Message → Reopening → Settling
built w cells lasts shown bases sizes nonces messages r = record {
  world = record w { net = record w.net { cells = cells; last = lasts }; shown = shown };
  bases = bases;
  sizes = sizes;
  nonces = nonces;
  messages = messages;
  reopening = r;
}

-- states of the same parts are the same
pub same_built : (w : World) (C D : ℕ → ℕ → Cell) (L K : ℕ → ℕ → ℕ) (S T : ℕ → MapEntry) (A B : Party → Base) (z : ℕ → Sizes) (n : ℕ) (m o : List Message) (r : Reopening) →
    C ≡ D → L ≡ K → S ≡ T → A ≡ B → m ≡ o → built w C L S A z n m r ≡ built w D K T B z n o r
same_built w C D L K S T A B z n m o r c l s a e =
    ap (λ q. built w q L S A z n m r) c ∙ ap (λ q. built w D q S A z n m r) l ∙ ap (λ q. built w D K q A z n m r) s
    ∙ ap (λ q. built w D K T q z n m r) a ∙ ap (λ q. built w D K T B z n q r) e

-- what is beside a fleet is beside it when servers and the map's owner have changed
pub beside_as : (f : Fleet) (servers : ℕ → AgentServer) (owner : AgentBase) (shown : ℕ → MapEntry) (w : World) → IsBeside f w → IsBeside (record f { servers = servers; owner = owner; shown = shown }) w
beside_as f servers owner shown w b =
    record { record_is = b.record_is; base = b.base; sent = b.sent; answers = b.answers; passes = b.passes; published = b.published; stored = b.stored }

-- a cluster stands for what it is seen as
pub stands_as : (c : Cluster) (w : World) (z : ℕ → Sizes) (x : Settling) → x ≡ seen c w z → IsBeside c.fleet w → StandsFor c x
stands_as c w z x e b = subst (StandsFor c) (sym e) (record {
  same = refl;
  beside = record { record_is = b.record_is; base = b.base; sent = b.sent; answers = b.answers; passes = b.passes; published = b.published; stored = b.stored };
})

-- The model leads to a state for which the cluster stands.
pub record Leads (c : Cluster) (x : Settling) : Type 0 where
  pub events : List SettlingEvent
  pub fit : AllSettlingFit events x
  pub stands : StandsFor c (settling_run events x)

-- by no step
pub no_step : (c : Cluster) (w : World) (z : ℕ → Sizes) → IsBeside c.fleet w → Leads c (seen c w z)
no_step c w z b = record { events = []; fit = tt; stands = stands_as c w z (seen c w z) refl b }

-- ---- lists

-- what stands at a place of a list has its image there
pub get_map : {A B : Type 0} (g : A → B) (xs : List A) (k : ℕ) (x : A) → slice_get xs k ≡ Some x → slice_get (map g xs) k ≡ Some (g x)
get_map g [] k x e = absurd (cc)
get_map g (y ∷ ys) zero x e = let s : y ≡ x = cc in ap (λ q. Some (g q)) s
get_map g (y ∷ ys) (suc k) x e = get_map g ys k x e

-- the images of two lists
pub map_more : {A B : Type 0} (g : A → B) (xs ys : List A) → map g (xs ++ ys) ≡ map g xs ++ map g ys
map_more g [] ys = refl
map_more g (x ∷ xs) ys = ap (λ l. g x ∷ l) (map_more g xs ys)

-- what was put in envelopes is in them
pub opened_again : {A B : Type 0} (g : A → B) (h : B → A) → ((y : B) → g (h y) ≡ y) → (ys : List B) → map g (map h ys) ≡ ys
opened_again g h back [] = refl
opened_again g h back (y ∷ ys) = ap (λ q. q ∷ map g (map h ys)) (back y) ∙ ap (λ l. y ∷ l) (opened_again g h back ys)
