-- From what a call of the library says to what its flattened answer is. Assumes nothing.
use mathlib.Core.Path.{◌≡◌, sym, ap, ◌∙◌}

-- what is said of the answer a is d, and a is the case b: so b, flattened, is d, flattened
pub carried : {A S F : Type 0} (says : A → S) (flat : S → F) {a b : A} {d : S} → says a ≡ d → a ≡ b → flat (says b) ≡ flat d
carried says flat e g = ap flat (ap says (sym g) ∙ e)
