-- What this crate's proofs cite of the crates below.
pub use Rattle.aprs_ax25.specs.Frame.{FrameOf, Parts}
pub use Rattle.aprs_ax25.specs.FrameFault.{frame_or_fault, parts_of, unless_fault}
pub use Rattle.aprs_ax25.specs.declared.scan.TheConstants.{MAX_UI_FRAME}
pub use Rattle.aprs_io.proofs.Cuts.{Lacks, cut_at-after, cut_at-append, cut_at-parts, taken}
pub use Rattle.aprs_io.proofs.Sends.{Calls-none, Sends-is}
pub use Rattle.aprs_io.specs.Cut.{Cut, first_cut, has_byte, is_byte}
pub use Rattle.aprs_io.specs.Device.{Calls, Going, Last, device_of}
pub use Rattle.aprs_io.specs.declared.input.InputEnd.{InputEnd}
pub use Rattle.aprs_io.specs.declared.input.InputEnd.TheVariants.{End, Read}
pub use Rattle.aprs_kiss.proofs.Escapes.{is_true_or_not, spelling_of-all, spelling_of-cut, spelling_of-unspelled, unspelled-of}
pub use Rattle.aprs_kiss.proofs.Pieces.{HasNoEnd-append, HasNoEnd-nil, HasNoEnd-one, cuts, judgements_of-empty, judgements_of-end, made_so, pieces_of-end, pieces_of-none, rest_of-end, rest_of-none}
pub use Rattle.aprs_kiss.proofs.ReadingBack.{begins_empty, ended_stream, judged_in_parts, left_in_parts, read_back, read_whole}
pub use Rattle.aprs_kiss.specs.Judgement.{DataFrame, Judgement, data_frame_of, judgement_by}
pub use Rattle.aprs_kiss.specs.Plain.{CutsPlain, IsPlain, is_special}
pub use Rattle.aprs_kiss.specs.Spelling.{HasNoEnd, is_escape, is_frame_end, kiss_text, spelling_of_byte}
pub use Rattle.aprs_kiss.specs.Stream.{EndsPiece, is_nonempty}
pub use Rattle.hex.proofs.HexLemmas.{decode_of-encode_lower, decode_of-ok}
pub use Rattle.hex.specs.Hex.{IsBytes, decode_of, encode_lower, is_hex_digit, lower_digits}
pub use Rattle.jiff_core.proofs.DateLemmas.{civil}
pub use Rattle.jiff_core.proofs.SignedLemmas.{signed_arith}
pub use Rattle.jiff_core.specs.Calendar.{IsCivilDate, days_in_month}
pub use Rattle.std.proofs.Common.{All, Bool, Err, FitsSigned, IfSome, IsErr, IsOk, IsTrue, List, None, Ok, Option, Result, Some, [], ap, append_assoc, arith, codes, cond, drop, eqb-true, false, filter, get_or, if◌then◌else◌, inl, inr, length, map, nat_eq, nat_le, nat_lt, negsuc, not, pos, refl, replicate, rules, slice_index, slice_range, subst, suc, sym, take, take-append-drop, true, unsigned_abs, unwrap_or, w16, w64, w8, zero, ℕ, ℤ, ◌%◌, ◌&&◌, ◌*ℤ◌, ◌*◌, ◌++◌, ◌+ℤ◌, ◌+◌, ◌-◌, ◌/◌, ◌<◌, ◌==◌, ◌||◌, ◌↔◌, ◌∙◌, ◌∷◌, ◌≡◌, ◌≢◌, ◌≤ℤ◌, ◌≤◌, ◌⊎◌}
pub use Rattle.std.proofs.Math.Seq.{drop-append-add, drop-cons, drop-length, take-append_seam, take-length}
pub use Rattle.std.proofs.lemmas.Bool.{OnTrue_at, and_from, and_parts, cases_lt, le-leb, leb-true, lt-ltb, ltb-true}
pub use Rattle.std.proofs.lemmas.Bool.Decides.{nat_tests}
pub use Rattle.std.proofs.lemmas.Int.{by_lt_z, to_z-of_z, to_z_pos}
pub use Rattle.std.proofs.lemmas.List.{drop-append-le, drop-drop, drop-take, drop_at, drop_more, get_or-append-add, get_or-take, length-drop, length-take-le, take-append-le, take_at, take_rest}
pub use Rattle.std.proofs.lemmas.List.Elements.{All-append, All-from_recursion, All-nil, recursion_from_All}
pub use Rattle.std.proofs.lemmas.Slice.Eq.{bytes_eq-Decides}
pub use Rattle.std.proofs.lemmas.Str.{IsUtf8-from_ascii}
pub use Rattle.std.specs.List.{AllByRecursion, after_first, before_first, flat_map, list_all, position, position_or_len, slice_split}
pub use Rattle.std.specs.Prelude.{MatchOption, SomeIff}
pub use Rattle.std.specs.Result.{result_ok}
pub use Rattle.std.specs.Str.{IsAscii, bytes_eq}
