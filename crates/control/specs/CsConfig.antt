-- How a control line's setting is read (document 01, multi_cs_config.rs, last two sentences). Assumes nothing.
use Rattle.std.specs.Prelude.{ℕ, Bool, true, false, cond, eqb, Option, Some, None}
use Rattle.slot.specs.Description.{ce_kind, oe_kind, cs1_kind, cs2_kind, cs3_kind, cs4_kind}
use Rattle.slot.specs.declared.description.CsLogic.{CsLogic}
use Rattle.slot.specs.declared.description.CsLogic.TheVariants.{ActiveLow, ActiveHigh, Ignore}
use Rattle.slot.specs.declared.description.CsConfig.{CsConfig}
use Rattle.slot.specs.declared.description.CsConfig.TheVariants.{ChipSelect, CeOe, CeOeExplicit}

-- 01 multi_cs_config 4: a setting that was not given reads as active low
abbrev pub given_or : Option CsLogic → CsLogic
given_or None = ActiveLow
given_or (Some logic) = logic

abbrev pub is_ignore : CsLogic → Bool
is_ignore ActiveLow = false
is_ignore ActiveHigh = false
is_ignore Ignore = true

-- 01 Shape 5: kinds 2 to 5 are cs1 to cs4
-- 01 multi_cs_config 4: cs2, cs3 and cs4 read as active low if they have no setting, and so do lines of other kinds
unfoldable pub chip_select_logic : CsLogic → Option CsLogic → Option CsLogic → Option CsLogic → ℕ → CsLogic
chip_select_logic cs1 cs2 cs3 cs4 kind =
    cond (eqb kind cs1_kind) cs1
    (cond (eqb kind cs2_kind) (given_or cs2)
    (cond (eqb kind cs3_kind) (given_or cs3)
    (cond (eqb kind cs4_kind) (given_or cs4) ActiveLow)))

-- 01 Shape 5: kinds 0 and 1 are ce and oe, 2 and 3 are cs1 and cs2
-- 01 multi_cs_config 4: with explicit ce and oe, a line of any other kind reads as active low
-- 01 multi_cs_config 5: cs1 has the setting of ce and cs2 that of oe; it is the other way round where ce is ignored
unfoldable pub explicit_logic : CsLogic → CsLogic → ℕ → CsLogic
explicit_logic ce oe kind =
    cond (eqb kind ce_kind) ce
    (cond (eqb kind oe_kind) oe
    (cond (eqb kind cs1_kind) (cond (is_ignore ce) oe ce)
    (cond (eqb kind cs2_kind) (cond (is_ignore ce) ce oe) ActiveLow)))

-- the line of a kind under a chip's settings
-- 01 multi_cs_config 4: ce and oe that are not explicit give no setting, so that every line reads as active low
abbrev pub logic_of : CsConfig → ℕ → CsLogic
logic_of (ChipSelect cs1 cs2 cs3 cs4) kind = chip_select_logic cs1 cs2 cs3 cs4 kind
logic_of CeOe kind = ActiveLow
logic_of (CeOeExplicit ce oe) kind = explicit_logic ce oe kind

abbrev pub ignores : CsConfig → ℕ → Bool
ignores config kind = is_ignore (logic_of config kind)
