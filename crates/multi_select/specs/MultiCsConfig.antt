-- multi_cs_config.rs: the part of each control line in a Multi set. Assumes nothing.
use Rattle.std.specs.Prelude.{ℕ, zero, suc, ◌-◌, Bool, ◌&&◌, ◌||◌, not, cond, List, [], ◌∷◌, ◌++◌, leb, eqb, length, get_or, replicate, Result, Ok, Err}
use Rattle.lists.specs.Each.{tally}
use Rattle.slot.specs.Description.{kind_at, cs4_kind}
use Rattle.slot.specs.declared.description.ControlLines.{ControlLines}
use Rattle.slot.specs.declared.description.CsConfig.{CsConfig}
use Rattle.slot.specs.declared.description.MultiCsConfig.{MultiCsConfig}
use Rattle.refusal.specs.Refusal.{Code, success, refusal_code}
use Rattle.refusal.specs.declared.Refusal.{Refusal}
use Rattle.refusal.specs.declared.Refusal.TheVariants.{OutOfDomain, NoActiveLine}
use Rattle.domain.specs.Domain.{control_in}
use Rattle.control.specs.CsConfig.{ignores}

-- 01 Shape 5: a line has a name if its kind is at most 5
abbrev pub named : ℕ → Bool
named kind = leb kind cs4_kind

-- 01 multi_cs_config 1: how many lines are left once those without a name are gone
abbrev pub named_count : ControlLines → ℕ
named_count lines = tally lines.count (λ k. named (kind_at lines k))

-- 01 multi_cs_config 2: the only line with a name is the select, and its setting is not looked at
-- 01 multi_cs_config 3: where several have a name, a line that the secondary does not ignore is a select
abbrev pub is_select : Bool → CsConfig → ℕ → Bool
is_select single secondary kind = named kind && (single || not (ignores secondary kind))

-- 01 multi_cs_config 3: of several lines, one that the secondary ignores is ignored where chip 0 ignores it too, and commoned where not
abbrev pub is_ignored : Bool → CsConfig → CsConfig → ℕ → Bool
is_ignored single chip0 secondary kind = named kind && not single && ignores secondary kind && ignores chip0 kind

abbrev pub is_commoned : Bool → CsConfig → CsConfig → ℕ → Bool
is_commoned single chip0 secondary kind = named kind && not single && ignores secondary kind && not (ignores chip0 kind)

-- the kinds among the first n lines that pass a test, in the order of the lines
unfoldable pub kinds_of : ControlLines → (ℕ → Bool) → ℕ → List ℕ
kinds_of lines test zero = []
kinds_of lines test (suc n) = kinds_of lines test n ++ cond (test (kind_at lines n)) (kind_at lines n ∷ []) []

-- 01 multi_cs_config 3: of several selects the last wins, and those before it join no list
abbrev pub last_of : List ℕ → ℕ
last_of kinds = get_or kinds (length kinds - 1) 0

-- a list of eight places, with these kinds at its front
abbrev pub eight : List ℕ → List ℕ
eight kinds = kinds ++ replicate (8 - length kinds) 0

abbrev pub config_of : List ℕ → List ℕ → List ℕ → MultiCsConfig
config_of selects commoned ignored = record {
  select = last_of selects;
  commoned = eight commoned;
  num_commoned = length commoned;
  ignored = eight ignored;
  num_ignored = length ignored;
}

-- no line in any part
abbrev pub nothing : MultiCsConfig
nothing = config_of [] [] []

-- the selects among the first n lines, and the configuration that these lines make
-- 01 multi_cs_config 1: lines without a name have no part
abbrev pub selects_of : ControlLines → CsConfig → ℕ → List ℕ
selects_of lines secondary n = kinds_of lines (is_select (eqb (named_count lines) 1) secondary) n

abbrev pub config_from : ControlLines → CsConfig → CsConfig → ℕ → MultiCsConfig
config_from lines chip0 secondary n =
    config_of (selects_of lines secondary n) (kinds_of lines (is_commoned (eqb (named_count lines) 1) chip0 secondary) n)
    (kinds_of lines (is_ignored (eqb (named_count lines) 1) chip0 secondary) n)

-- 01 Numbers 1: the code of a Multi configuration
abbrev pub multi_code : Result MultiCsConfig Refusal → Code
multi_code (Ok config) = success
multi_code (Err why) = refusal_code why

-- 01 Number 25: no line became the select
abbrev pub multi_derived : List ℕ → MultiCsConfig → Result MultiCsConfig Refusal
multi_derived selects config =
    cond (eqb (length selects) 0) (Err NoActiveLine) (Ok config)

-- the lines by their parts, line by line
abbrev pub multi_answer_of : ControlLines → CsConfig → CsConfig → Result MultiCsConfig Refusal
multi_answer_of lines chip0 secondary =
    multi_derived (selects_of lines secondary lines.count) (config_from lines chip0 secondary lines.count)

-- 01 Number 1: the control lines are outside the domain
-- 01 Numbers 2: the domain is tested before any line is looked at
abbrev pub multi_answer : ControlLines → CsConfig → CsConfig → Result MultiCsConfig Refusal
multi_answer lines chip0 secondary =
    cond (control_in lines) (multi_answer_of lines chip0 secondary) (Err OutOfDomain)
