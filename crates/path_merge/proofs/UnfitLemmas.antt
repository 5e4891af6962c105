-- What the first fault of a schedule tells.
use Rattle.std.proofs.Common.{◌≡◌, ℕ, List, length, refl, sym, subst, Result, Ok, Err}
use Rattle.std.specs.Prelude.{◌↔◌, IfErr, IsErrOf}
use Rattle.st_format.specs.declared.format.Format.{Format}
use Rattle.st_format.specs.Picture.{Values}
use Rattle.path_receiver.specs.Opening.{AreDifferent, IsWindow, IsWindowSize}
use Rattle.path_merge.specs.Played.{ArePictures, IsReceiverCount}
use Rattle.path_merge.specs.Unfit.{IsUnfitPlay, SpeaksAgainst}
use Rattle.path_receiver.specs.declared.play_fault.PlayFault.{PlayFault}
use Rattle.path_receiver.specs.declared.play_fault.PlayFault.TheVariants.{NoMemory, BadEvent}
use Rattle.path_receiver.specs.declared.play_fault.PlayFault.TheVariants.{BadWindow}
use Rattle.path_receiver.specs.declared.play_fault.PlayFault.TheVariants.{DoubleTimestamp}
use Rattle.path_receiver.specs.declared.play_fault.PlayFault.TheVariants.{BadPictures}
use Rattle.path_receiver.specs.declared.play_fault.PlayFault.TheVariants.{BadReceivers}

-- Where the window is one, a fault of the rest speaks against the whole.
pub rest_speaks : {T : Type 0} (r : Result T PlayFault) (w : List ℕ) (ps : List Values)
    (format : Format) (receivers : ℕ) → IsWindow w
    → IfErr r (λ e. IsUnfitPlay e ps format receivers)
    → IfErr r (λ e. SpeaksAgainst e w ps format receivers)
rest_speaks (Ok x) w ps format receivers is h = h
rest_speaks (Err NoMemory) w ps format receivers is h = h
rest_speaks (Err (BadEvent place)) w ps format receivers is h = h
rest_speaks (Err BadWindow) w ps format receivers is h = absurd h
rest_speaks (Err DoubleTimestamp) w ps format receivers is h = absurd h
rest_speaks (Err BadPictures) w ps format receivers is h = (is, h)
rest_speaks (Err BadReceivers) w ps format receivers is h = (is, h.0, h.1)

module _ {T : Type 0} (w : List ℕ) (ps : List Values) (format : Format) (receivers : ℕ) where
  bad_window_here : (e : PlayFault) → SpeaksAgainst e w ps format receivers
      → IsErrOf {T = T} (Err e) BadWindow ↔ (IsWindowSize (length w) → ⊥)
  bad_window_here NoMemory h = absurd h
  bad_window_here (BadEvent place) h = absurd h
  bad_window_here BadWindow h = (λ _. h, λ _. refl)
  bad_window_here DoubleTimestamp h = (λ e. absurd cc, λ no. absurd (no h.0))
  bad_window_here BadPictures h = (λ e. absurd cc, λ no. absurd (no h.0.size))
  bad_window_here BadReceivers h = (λ e. absurd cc, λ no. absurd (no h.0.size))

  bad_double_here : (e : PlayFault) → SpeaksAgainst e w ps format receivers
      → IsErrOf {T = T} (Err e) DoubleTimestamp
      ↔ (IsWindowSize (length w) × (AreDifferent w → ⊥))
  bad_double_here NoMemory h = absurd h
  bad_double_here (BadEvent place) h = absurd h
  bad_double_here BadWindow h = (λ e. absurd cc, λ no. absurd (h no.0))
  bad_double_here DoubleTimestamp h = (λ _. h, λ _. refl)
  bad_double_here BadPictures h = (λ e. absurd cc, λ no. absurd (no.1 h.0.different))
  bad_double_here BadReceivers h = (λ e. absurd cc, λ no. absurd (no.1 h.0.different))

  bad_pictures_here : (e : PlayFault) → SpeaksAgainst e w ps format receivers
      → IsErrOf {T = T} (Err e) BadPictures
      ↔ (IsWindow w × (ArePictures ps format → ⊥))
  bad_pictures_here NoMemory h = absurd h
  bad_pictures_here (BadEvent place) h = absurd h
  bad_pictures_here BadWindow h = (λ e. absurd cc, λ no. absurd (h no.0.size))
  bad_pictures_here DoubleTimestamp h = (λ e. absurd cc, λ no. absurd (h.1 no.0.different))
  bad_pictures_here BadPictures h = (λ _. h, λ _. refl)
  bad_pictures_here BadReceivers h = (λ e. absurd cc, λ no. absurd (no.1 h.1))

  bad_receivers_here : (e : PlayFault) → SpeaksAgainst e w ps format receivers
      → IsErrOf {T = T} (Err e) BadReceivers
      ↔ (IsWindow w × ArePictures ps format × (IsReceiverCount receivers → ⊥))
  bad_receivers_here NoMemory h = absurd h
  bad_receivers_here (BadEvent place) h = absurd h
  bad_receivers_here BadWindow h = (λ e. absurd cc, λ no. absurd (h no.0.size))
  bad_receivers_here DoubleTimestamp h = (λ e. absurd cc, λ no. absurd (h.1 no.0.different))
  bad_receivers_here BadPictures h = (λ e. absurd cc, λ no. absurd (h.1 no.1))
  bad_receivers_here BadReceivers h = (λ _. h, λ _. refl)

  no_event_here : (e : PlayFault) (place : ℕ) → SpeaksAgainst e w ps format receivers
      → IsErrOf {T = T} (Err e) (BadEvent place) → ⊥
  no_event_here NoMemory place h is = h
  no_event_here (BadEvent other) place h is = h
  no_event_here BadWindow place h is = cc
  no_event_here DoubleTimestamp place h is = cc
  no_event_here BadPictures place h is = cc
  no_event_here BadReceivers place h is = cc

  module _ (r : Result T PlayFault) (e : PlayFault) (is : r ≡ Err e) where
    pub bad_window : SpeaksAgainst e w ps format receivers
        → IsErrOf r BadWindow ↔ (IsWindowSize (length w) → ⊥)
    bad_window h =
        subst (λ (q : Result T PlayFault). IsErrOf q BadWindow
        ↔ (IsWindowSize (length w) → ⊥)) (sym is) (bad_window_here e h)

    pub bad_double : SpeaksAgainst e w ps format receivers
        → IsErrOf r DoubleTimestamp ↔ (IsWindowSize (length w) × (AreDifferent w → ⊥))
    bad_double h =
        subst (λ (q : Result T PlayFault). IsErrOf q DoubleTimestamp
        ↔ (IsWindowSize (length w) × (AreDifferent w → ⊥))) (sym is) (bad_double_here e h)

    pub bad_pictures : SpeaksAgainst e w ps format receivers
        → IsErrOf r BadPictures ↔ (IsWindow w × (ArePictures ps format → ⊥))
    bad_pictures h =
        subst (λ (q : Result T PlayFault). IsErrOf q BadPictures
        ↔ (IsWindow w × (ArePictures ps format → ⊥))) (sym is) (bad_pictures_here e h)

    pub bad_receivers : SpeaksAgainst e w ps format receivers
        → IsErrOf r BadReceivers
        ↔ (IsWindow w × ArePictures ps format × (IsReceiverCount receivers → ⊥))
    bad_receivers h =
        subst (λ (q : Result T PlayFault). IsErrOf q BadReceivers
        ↔ (IsWindow w × ArePictures ps format × (IsReceiverCount receivers → ⊥))) (sym is)
        (bad_receivers_here e h)

    pub no_event : (place : ℕ) → SpeaksAgainst e w ps format receivers
        → IsErrOf r (BadEvent place) → ⊥
    no_event place h here =
        no_event_here e place h
        (subst (λ (q : Result T PlayFault). IsErrOf q (BadEvent place)) is here)
