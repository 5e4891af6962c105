-- Files that are octet for octet the same are processed into one picture.
use Rattle.std.proofs.Common.{◌≡◌, ◌∙◌, ℕ, suc, List, [], ◌∷◌, length, map, Option, None, Some}
use Rattle.std.proofs.Common.{refl, sym, ap, subst, arith}
use Rattle.std.specs.Prelude.{slice_index}
use Rattle.std.specs.Option.{option_map}
use Rattle.std.proofs.lemmas.Option.{some_pair_parts}
use Rattle.st_format.specs.declared.format.Format.{Format}
use Rattle.st_format.specs.Picture.{Values}
use Rattle.st_format.specs.Position.{IsPosition, Position}
use Rattle.st_format.specs.Raster.{Raster}
use Rattle.st_format.specs.Text.{parted}
use Rattle.st_format.proofs.SameFields.{same_format}
use Rattle.bt709_fixed.specs.Operations.{IsOf, gain_value, limit_value, ycc422_value}
use Rattle.bt709_fixed.specs.Operations.{ycc444_value}
use Rattle.st_format.specs.declared.sampling.Sampling.TheVariants.{Ycc422, Ycc444}
use Rattle.key_mix.specs.Jobs.{IsJobPicture, key_value, wipe_value}
use Rattle.key_mix.specs.declared.Job.{Job}
use Rattle.key_mix.specs.declared.Job.TheVariants.{Limit, Gain, ToYcc444, ToYcc422, Wipe, Key}
use Rattle.media_file.specs.PictureFile.{IsPictureFile, Shown, shown_of}
use Rattle.media_file.proofs.Seen.{picture_once}
use Rattle.packet_plan.specs.declared.stamp.Stamp.{Stamp}
use Rattle.path_receiver.specs.Frames.{State}
use Rattle.receiver_file.specs.Saved.{IsReceiverFile}
use Rattle.run_outcome.specs.Moments.{WasRead}
use Rattle.receiver_engines.specs.Inputs.{IsFill, settled_frames}
use Rattle.receiver_engines.specs.Processing.{SendsSaidFiles}
use Rattle.receiver_engines.specs.Reading.{SayReceivers, SaysHeld}
use Rattle.run_laws.specs.Received.{all_read, read_of}
use Rattle.run_laws.specs.Sent.{AreOnePicture}
use Rattle.run_laws.proofs.NoProcessRefusals.{frame_for, one_receiver, same_found, same_frame}
use Rattle.run_laws.proofs.OneJob.{one_job, one_resampled}
use Rattle.run_laws.proofs.Receiving.{was_read}
use Rattle.script_engines.proofs.LinesOnce.{one_number}

-- ---- a job of pictures makes one picture

of_one : (f : Format) (value : Position → ℕ) (p q : Values) → IsOf f value p → IsOf f value q
    → AreOnePicture p q
of_one f value p q a b = record {
  format = a.format ∙ sym b.format;
  values = λ at is.
      let here : IsPosition at f = subst (λ (g : Format). IsPosition at g) a.format is in
      a.each at here ∙ sym (b.each at here);
}

pub job_once : (j : Job) (vs : List Values) (p q : Values) → IsJobPicture p j vs
    → IsJobPicture q j vs → AreOnePicture p q
job_once (Limit range) [] p q a b = absurd a
job_once (Limit range) (v ∷ []) p q a b = of_one v.format (limit_value range v) p q a b
job_once (Limit range) (v ∷ w ∷ vs) p q a b = absurd a
job_once (Gain gain) [] p q a b = absurd a
job_once (Gain gain) (v ∷ []) p q a b = of_one v.format (gain_value gain v) p q a b
job_once (Gain gain) (v ∷ w ∷ vs) p q a b = absurd a
job_once ToYcc444 [] p q a b = absurd a
job_once ToYcc444 (v ∷ []) p q a b =
    of_one q.format (ycc444_value v) p q
    (subst (λ (f : Format). IsOf f (ycc444_value v) p)
    (one_resampled p.format q.format v.format Ycc444 a.0 b.0) a.1) b.1
job_once ToYcc444 (v ∷ w ∷ vs) p q a b = absurd a
job_once ToYcc422 [] p q a b = absurd a
job_once ToYcc422 (v ∷ []) p q a b =
    of_one q.format (ycc422_value v) p q
    (subst (λ (f : Format). IsOf f (ycc422_value v) p)
    (one_resampled p.format q.format v.format Ycc422 a.0 b.0) a.1) b.1
job_once ToYcc422 (v ∷ w ∷ vs) p q a b = absurd a
job_once (Wipe w) [] p q a b = absurd a
job_once (Wipe w) (u ∷ []) p q a b = absurd a
job_once (Wipe w) (u ∷ v ∷ []) p q a b = of_one u.format (wipe_value w u v) p q a b
job_once (Wipe w) (u ∷ v ∷ x ∷ vs) p q a b = absurd a
job_once Key [] p q a b = absurd a
job_once Key (u ∷ []) p q a b = absurd a
job_once Key (u ∷ v ∷ []) p q a b = absurd a
job_once Key (u ∷ v ∷ k ∷ []) p q a b = of_one u.format (key_value u v k) p q a b
job_once Key (u ∷ v ∷ k ∷ x ∷ vs) p q a b = absurd a

-- ---- a text says one fill

three_is : (xs ys : List ℕ) → length xs ≡ 3 → length ys ≡ 3
    → slice_index xs 0 ≡ slice_index ys 0 → slice_index xs 1 ≡ slice_index ys 1
    → slice_index xs 2 ≡ slice_index ys 2 → xs ≡ ys
three_is [] ys l m a b c = absurd (omega (arith, l))
three_is (x ∷ []) ys l m a b c = absurd (omega (arith, l))
three_is (x ∷ y ∷ []) ys l m a b c = absurd (omega (arith, l))
three_is (x ∷ y ∷ z ∷ w ∷ xs) ys l m a b c = absurd (omega (arith, l))
three_is (x ∷ y ∷ z ∷ []) [] l m a b c = absurd (omega (arith, m))
three_is (x ∷ y ∷ z ∷ []) (u ∷ []) l m a b c = absurd (omega (arith, m))
three_is (x ∷ y ∷ z ∷ []) (u ∷ v ∷ []) l m a b c = absurd (omega (arith, m))
three_is (x ∷ y ∷ z ∷ []) (u ∷ v ∷ w ∷ t ∷ ys) l m a b c = absurd (omega (arith, m))
three_is (x ∷ y ∷ z ∷ []) (u ∷ v ∷ w ∷ []) l m a b c =
    ap (λ (n : ℕ). n ∷ y ∷ z ∷ []) a ∙ ap (λ (n : ℕ). u ∷ n ∷ z ∷ []) b
    ∙ ap (λ (n : ℕ). u ∷ v ∷ n ∷ []) c

pub one_fill : (text fill other : List ℕ) (qs rs : List Raster) → IsFill fill text qs
    → IsFill other text rs → fill ≡ other
one_fill text fill other qs rs p q =
    let a = some_pair_parts p.is.first q.is.first p.is.rest q.is.rest
    (sym p.is.parts ∙ q.is.parts) in
    let rest : parted 44 p.is.rest ≡ Some (q.is.second, q.is.third) =
    ap (λ (l : List ℕ). parted 44 l) a.1 ∙ q.is.parts_rest in
    let b = some_pair_parts p.is.second q.is.second p.is.third q.is.third
    (sym p.is.parts_rest ∙ rest) in
    three_is fill other p.values.three q.values.three
    (one_number p.is.first q.is.first (slice_index fill 0) (slice_index other 0) a.0 p.is.first_is
    q.is.first_is)
    (one_number p.is.second q.is.second (slice_index fill 1) (slice_index other 1) b.0
    p.is.second_is q.is.second_is)
    (one_number p.is.third q.is.third (slice_index fill 2) (slice_index other 2) b.1 p.is.third_is
    q.is.third_is)

-- ---- a file is that of one picture

abbrev values_by : Format → List ℕ → Values
values_by f samples = record { format = f; samples = samples }

one_picture : (octets : List ℕ) (p q : Values) → IsPictureFile octets p → IsPictureFile octets q
    → p ≡ q
one_picture octets p q a b =
    let same : shown_of p ≡ shown_of q =
    picture_once p q a.picture b.picture (sym a.whole ∙ b.whole) in
    let format : p.format ≡ q.format =
    same_format p.format q.format (ap (λ (s : Shown). s.format) same) in
    ap (λ (f : Format). values_by f p.samples) format
    ∙ ap (values_by q.format) (ap (λ (s : Shown). s.samples) same)

-- ---- two runs

abbrev Files : Type 0
Files = List (List ℕ)

head_is : (x y : List ℕ) (xs ys : Files) → x ∷ xs ≡ y ∷ ys → x ≡ y
head_is x y xs ys e = cc

tail_is : (x y : List ℕ) (xs ys : Files) → x ∷ xs ≡ y ∷ ys → xs ≡ ys
tail_is x y xs ys e = cc

abbrev some_file : List ℕ → Option (List ℕ)
some_file octets = Some octets

one_file_of : (x y : List ℕ) → some_file x ≡ some_file y → x ≡ y
one_file_of x y e = cc

no_file : (x : List ℕ) → (let none : Option (List ℕ) = None in none ≡ some_file x) → ⊥
no_file x e = cc

module _ {S T : Type 0} (gave : S → List ℕ) (ended : S → Type 0) (gave' : T → List ℕ)
    (ended' : T → Type 0)
  where
    frames_once : (ts : ℕ) (states : List (S × S)) (others : List (T × T)) (rs qs : List State)
        → all_read gave states ≡ all_read gave' others
        → SayReceivers (WasRead gave ended) states rs
        → SayReceivers (WasRead gave' ended') others qs
        → map (frame_for ts) qs ≡ map (frame_for ts) rs
    frames_once ts [] [] [] [] same a b = refl
    frames_once ts [] [] [] (q ∷ qs) same a b = absurd b
    frames_once ts [] [] (r ∷ rs) qs same a b = absurd a
    frames_once ts [] (t ∷ others) rs qs same a b =
        let n : 0 ≡ suc (length (all_read gave' others)) =
        ap (λ (l : Files). length l) same in
        absurd (omega (arith, n))
    frames_once ts (s ∷ states) [] rs qs same a b =
        let n : suc (length (all_read gave states)) ≡ 0 =
        ap (λ (l : Files). length l) same in
        absurd (omega (arith, n))
    frames_once ts (s ∷ states) (t ∷ others) [] qs same a b = absurd a
    frames_once ts (s ∷ states) (t ∷ others) (r ∷ rs) [] same a b = absurd b
    frames_once ts (s ∷ states) (t ∷ others) (r ∷ rs) (q ∷ qs) same a b =
        let x : List ℕ = read_of gave s in
        let y : List ℕ = read_of gave' t in
        let first : x ≡ y =
        head_is x y (all_read gave states) (all_read gave' others) same in
        let rest : all_read gave states ≡ all_read gave' others =
        tail_is x y (all_read gave states) (all_read gave' others) same in
        let one : frame_for ts q ≡ frame_for ts r =
        same_frame ts r q
        (one_receiver x r q (a.0 x (was_read gave ended s))
        (subst (λ (l : List ℕ). IsReceiverFile l q) (sym first)
        (b.0 y (was_read gave' ended' t)))) in
        ap (λ (f : Option Raster). f ∷ map (frame_for ts) qs) one
        ∙ ap (λ (fs : List (Option Raster)). frame_for ts r ∷ fs)
        (frames_once ts states others rs qs rest a.1 b.1)

    held_once : (hold : Option (S × S)) (other : Option (T × T)) (held kept : Option Values)
        → option_map (read_of gave) hold ≡ option_map (read_of gave') other
        → SaysHeld (WasRead gave ended) hold held → SaysHeld (WasRead gave' ended') other kept
        → held ≡ kept
    held_once None None None None same a b = refl
    held_once None None None (Some q) same a b = absurd b
    held_once None None (Some p) kept same a b = absurd a
    held_once None (Some t) held kept same a b = absurd (no_file (read_of gave' t) same)
    held_once (Some s) None held kept same a b = absurd (no_file (read_of gave s) (sym same))
    held_once (Some s) (Some t) None kept same a b = absurd a
    held_once (Some s) (Some t) (Some p) None same a b = absurd b
    held_once (Some s) (Some t) (Some p) (Some q) same a b =
        let x : List ℕ = read_of gave s in
        let y : List ℕ = read_of gave' t in
        let octets : x ≡ y = one_file_of x y same in
        ap (λ (v : Values). (let o : Option Values = Some v in o))
        (one_picture x p q (a x (was_read gave ended s))
        (subst (λ (l : List ℕ). IsPictureFile l q) (sym octets)
        (b y (was_read gave' ended' t))))

    module _ (text other : List ℕ) (states : List (S × S)) (others : List (T × T))
        (hold : Option (S × S)) (held : Option (T × T)) (job_text : List ℕ) (ts : ℕ)
        (fill : List ℕ) (size size' : ℕ) (stamp stamp' : Stamp) (old new : List ℕ) (count : ℕ)
        (old' new' : List ℕ) (count' : ℕ)
        (first : SendsSaidFiles text (WasRead gave ended) states hold job_text ts fill size stamp
        old new count)
        (second : SendsSaidFiles other (WasRead gave' ended') others held job_text ts fill size'
        stamp' old' new' count')
        (same : all_read gave states ≡ all_read gave' others)
        (same_held : option_map (read_of gave) hold ≡ option_map (read_of gave') held)
      where
        frames_are : first.sends.frames ≡ second.sends.frames
        frames_are =
            same_found first.sends.frames second.sends.frames
            (sym first.sends.are
            ∙ sym (frames_once ts states others first.receivers second.receivers same
            first.receivers_are second.receivers_are)
            ∙ second.sends.are)

        pub pictures_are : settled_frames first.held first.sends.fill first.sends.frames
            ≡ settled_frames second.held second.sends.fill second.sends.frames
        pictures_are =
            ap (λ (h : Option Values). settled_frames h first.sends.fill first.sends.frames)
            (held_once hold held first.held second.held same_held first.held_is second.held_is)
            ∙ ap (λ (f : List ℕ). settled_frames second.held f first.sends.frames)
            (one_fill fill first.sends.fill second.sends.fill first.sends.frames
            second.sends.frames first.sends.fill_is second.sends.fill_is)
            ∙ ap (λ (qs : List Raster). settled_frames second.held second.sends.fill qs) frames_are

        pub processed_once : AreOnePicture first.sends.takes.spell.picture
            second.sends.takes.spell.picture
        processed_once =
            let p : Values = first.sends.takes.spell.picture in
            let q : Values = second.sends.takes.spell.picture in
            job_once second.job
            (settled_frames second.held second.sends.fill second.sends.frames) p q
            (subst (λ (vs : List Values). IsJobPicture p second.job vs) pictures_are
            (subst (λ (j : Job). IsJobPicture p j
            (settled_frames first.held first.sends.fill first.sends.frames))
            (one_job job_text first.job second.job first.job_is second.job_is)
            first.sends.takes.spell.made))
            second.sends.takes.spell.made
