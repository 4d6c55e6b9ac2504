-- The lines sorted one by one, as the code's loop does. No answer is defined by it: `config_from` says what the lines come to. Assumes
-- nothing.
use Rattle.std.specs.Prelude.{ℕ, zero, suc, ◌+◌, Bool, true, false, ◌||◌, not, cond, eqb, set}
use Rattle.slot.specs.Description.{kind_at}
use Rattle.slot.specs.declared.description.ControlLines.{ControlLines}
use Rattle.slot.specs.declared.description.CsConfig.{CsConfig}
use Rattle.control.specs.CsConfig.{ignores}
use Rattle.multi_select.specs.MultiCsConfig.{named, named_count, nothing}
use Rattle.multi_select.specs.declared.Part.{Part}
use Rattle.multi_select.specs.declared.Part.TheVariants.{Dropped, Select, Commoned, Ignored}
use Rattle.multi_select.specs.declared.Sorted.{Sorted}

-- the part of a line, by one test after the other
abbrev pub line_part : Bool → CsConfig → CsConfig → ℕ → Part
line_part single chip0 secondary kind =
    cond (named kind)
    (cond (single || not (ignores secondary kind)) Select (cond (ignores chip0 kind) Ignored Commoned))
    Dropped

-- a line joins the lines of its part; a new select takes the place of the one before it
abbrev pub sorted_with : Part → ℕ → Sorted → Sorted
sorted_with Dropped kind s = s
sorted_with Select kind s = record {
  config = record {
    select = kind;
    commoned = s.config.commoned;
    num_commoned = s.config.num_commoned;
    ignored = s.config.ignored;
    num_ignored = s.config.num_ignored;
  };
  found = true;
}
sorted_with Commoned kind s = record {
  config = record {
    select = s.config.select;
    commoned = set s.config.commoned s.config.num_commoned kind;
    num_commoned = s.config.num_commoned + 1;
    ignored = s.config.ignored;
    num_ignored = s.config.num_ignored;
  };
  found = s.found;
}
sorted_with Ignored kind s = record {
  config = record {
    select = s.config.select;
    commoned = s.config.commoned;
    num_commoned = s.config.num_commoned;
    ignored = set s.config.ignored s.config.num_ignored kind;
    num_ignored = s.config.num_ignored + 1;
  };
  found = s.found;
}

-- the first k lines, in order
unfoldable pub sorted : ControlLines → CsConfig → CsConfig → ℕ → Sorted
sorted lines chip0 secondary zero = record { config = nothing; found = false }
sorted lines chip0 secondary (suc k) =
    sorted_with (line_part (eqb (named_count lines) 1) chip0 secondary (kind_at lines k)) (kind_at lines k) (sorted lines chip0 secondary k)
