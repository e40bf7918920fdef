use Rattle.vp8_tables.specs.Tables.{TableEntries}
use Rattle.vp8_tables.specs.declared.rfc.TheConstants.{COEFFICIENTS, UPDATES, KEY_SUBS}

-- the entries of the tables that RFC 6386 prints (sections 13.5, 13.4 and 11.5)
unfoldable pub rfc_entries : TableEntries
rfc_entries = record { coefficients = COEFFICIENTS; updates = UPDATES; key_subs = KEY_SUBS }
