-- The flattened answer of a batch listing, and what it leaves in its two arrays. Assumes nothing.
use Rattle.std.specs.Prelude.{ℕ, cond, ◌&&◌, List, length, ℤ}
use Rattle.meaning.specs.Refusals.{Said, Number}
use Rattle.meaning.specs.Sequence.{Source}
use Rattle.loftsplice.specs.Listing.{Batch, list_of}
use Rattle.c_forms.specs.Flat.{form, refusal_in, given_or}
use Rattle.c_forms.specs.Limits.{is_mode, mode_of, kinds, bounds_of}
use Rattle.c_listing.specs.declared.FlatListed.{FlatListed}

-- a refusal's number or 0, and the sum or 0
abbrev pub flat_listed : Said ℕ → FlatListed
flat_listed s = record { refusal = refusal_in s; sum = given_or 0 s }

-- the windows and bounds as they are lent: pairs of lists that belong together; and the mode's number
pub record Request : Type 0 where
  pub from : List ℕ
  pub to : List ℕ
  pub mode : ℕ
  pub lows : List ℤ
  pub low_kinds : List ℕ
  pub ups : List ℤ
  pub up_kinds : List ℕ

module _ (k : Request) (p : Source) (out : List ℤ) (counts : List ℕ) where
  -- the listing that they ask for, into this output and these counts
  abbrev pub batch_of : Batch
  batch_of =
      record {
        source = p;
        starts = k.from;
        ends = k.to;
        mode = mode_of k.mode;
        lower = bounds_of k.lows k.low_kinds;
        upper = bounds_of k.ups k.up_kinds;
        out = out;
        counts = counts;
      }

  -- FORM, and then the listing
  unfoldable pub ask_list : Said ℕ
  ask_list = cond (is_mode k.mode && kinds (length k.lows) k.low_kinds && kinds (length k.ups) k.up_kinds) (list_of batch_of) (Number form)
