-- A frame that is read is passed on, and what is passed on is read.
use Rattle.aprs_details.proofs.Common.{◌≡◌, true, ℕ, List, ◌∷◌, ◌++◌, Option, Some, None, refl, sym, ap, subst, ◌∙◌, eqb-true, after_some, some_is, byte_found}
use Rattle.aprs_io.specs.Cut.{Cut, cut_at}
use Rattle.aprs_io.proofs.Cuts.{cut_at-parts, cut_at-append}
use Rattle.aprs_details.specs.ThirdParty.{Passed, IsPath, by, direct, IsPassedFrame, is_brace, cut_or_all, passed_of}
use Rattle.aprs_details.proofs.Lacking.{cut_at-before, cut_at-none, cut_at-lacks}

-- what is passed on
abbrev made : (source path info : List ℕ) → Passed
made source path info = record {
  source = source;
  destination = (cut_or_all path (cut_at 44 path)).before;
  via = (cut_or_all path (cut_at 44 path)).after;
  info = info;
}

path_found : (path : List ℕ) (o : Option Cut) → cut_at 44 path ≡ o →
    IsPath (cut_or_all path o).before (cut_or_all path o).after path
path_found path None e = direct (cut_at-none 44 path e) refl refl
path_found path (Some cut) e = by (cut_at-before 44 path cut e) (cut_at-parts 44 path cut e)

whole_is : (info rest addresses inner : List ℕ) (b : ℕ) → info ≡ b ∷ rest → is_brace b ≡ true →
    rest ≡ addresses ++ 58 ∷ inner → info ≡ 125 ∷ (addresses ++ 58 ∷ inner)
whole_is info rest addresses inner b e h r = rw (e, eqb-true b 125 h, r) refl

-- a frame that is read
pub passed_found : (info : List ℕ) (x : Passed) → passed_of info ≡ Some x → IsPassedFrame x info
unfolding passed_of
passed_found info x e = after_some _ _ _ _ e (λ mark e1 r1. after_some _ _ _ _ r1 (λ parts e2 r2.
    after_some _ _ _ _ r2 (λ ends e3 r3.
    let f = byte_found is_brace info mark e1 in
    subst (λ (x : Passed). IsPassedFrame x info)
    (some_is (made ends.before ends.after parts.after) x r3) (record {
      addresses = parts.before;
      path = ends.after;
      whole = whole_is info mark.1 parts.before parts.after mark.0 f.0 f.1 (cut_at-parts 58 mark.1 parts e2);
      colon = cut_at-before 58 mark.1 parts e2;
      parts = cut_at-parts 62 parts.before ends e3;
      end = cut_at-before 62 parts.before ends e3;
      path_parts = path_found ends.after (cut_at 44 ends.after) refl;
    }))))

-- ---- and the other way

path_takes : (destination via path : List ℕ) → IsPath destination via path →
    cut_or_all path (cut_at 44 path) ≡ (record { before = destination; after = via })
path_takes destination via path (by lacks e) =
    ap (λ (p : List ℕ). cut_or_all p (cut_at 44 p)) e
    ∙ ap (cut_or_all (destination ++ 44 ∷ via)) (cut_at-append 44 destination via lacks)
path_takes destination via path (direct lacks e n) =
    ap (λ (p : List ℕ). cut_or_all p (cut_at 44 p)) e
    ∙ ap (cut_or_all destination) (cut_at-lacks 44 destination lacks)
    ∙ ap (λ (l : List ℕ). (record { before = destination; after = l })) (sym n)

pub passed_takes : (info : List ℕ) (x : Passed) → IsPassedFrame x info → passed_of info ≡ Some x
unfolding passed_of
passed_takes info x h =
    ap passed_of h.whole
    ∙ rw (
      cut_at-append 58 h.addresses x.info h.colon,
      ap (cut_at 62) h.parts ∙ cut_at-append 62 x.source h.path h.end,
      path_takes x.destination x.via h.path h.path_parts,
    ) refl
